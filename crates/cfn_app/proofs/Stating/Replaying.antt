-- What each status of `replay` says, from how a run of it ends.
use Rattle.std.proofs.Common.{◌≡◌, ◌⊎◌, inl, inr, ℕ, suc, ◌<◌, true, List, refl, ap, ◌∙◌, subst, arith}
use Rattle.cfn_wcnf.specs.declared.fault.Unread.{Unread as FirstUnread}
use Rattle.cfn_model.specs.Network.{Network}
use Rattle.cfn_model.specs.Certificate.{Certificate}
use Rattle.cfn_model.specs.Text.{spelling}
use Rattle.cfn_record.specs.declared.kind.RecordFault.{RecordFault}
use Rattle.cfn_record.specs.Fault as faulty
use Rattle.cfn_record.specs.Lines.{Record, Spells}
use Rattle.cfn_record.specs.Replaying.{GoodRecord}
use Rattle.cfn_record.proofs.CallerLemmas.{no_fault_where_good}
use Rattle.cfn_certwrite.specs.RecordTexts.{replayed_text}
use Rattle.cfn_desk.specs.Outside.{Outside, Open, IsIdle, Stored, Writing, after, faults, says}
use Rattle.cfn_cli.specs.Request.Replaying.{ReplayRequest}
use Rattle.cfn_app.specs.declared.status.Status.{Status}
use Rattle.cfn_app.specs.declared.status.Status.TheVariants.{Done, Refused, Disproved}
use Rattle.cfn_app.specs.Endings.{Ends, IsHindered, Outputs}
use Rattle.cfn_app.specs.Endings as endings
use Rattle.cfn_app.specs.Loading.{Paired, ReadsAs, RefusesAs, Tells}
use Rattle.cfn_app.specs.Saying.{Counts}
use Rattle.cfn_app.specs.Runs.Replaying.{ComesTo, Replays, ReplaySays, ReplayStatus, RunsAgain, WritesAgain}
use Rattle.cfn_app.specs.Runs.Replaying as replaying
use Rattle.cfn_app.proofs.Counting.{by, counted, ends_idle, hindered, unheard, by_due}
use Rattle.cfn_app.proofs.Files.{same_bytes, read_one, read_refused}
use Rattle.cfn_app.proofs.Pairing.{unpaired_by, unpaired_refused, unpaired_hindered, unpaired_counts, unpaired_idle, pair_faults, pair_idle}
use Rattle.cfn_app.proofs.Writing.{stored_at, output_counts, output_idle}

module _ (ask : ReplayRequest) (old new : Outside) (status : Status) where
  abbrev ItsPair : Network → List ℕ → Outside → Type 0
  ItsPair P text middle = Paired ask.format ask.file ask.recording old P text middle

  says_output : (P : Network) (text : List ℕ) (middle : Outside) (c : Certificate) → ItsPair P text middle → ComesTo P text c → Outputs (spelling c) replayed_text Done (after (Open ask.certificate true) middle) new status → ReplaySays ask old new status
  says_output P text middle c paired comes (endings.unwritten last not same ends) = by (ReplaySays ask old new) _ new.calls status ends (λ calls. tt) tt
  says_output P text middle c paired comes (endings.wrote last wrote same ends) = by (ReplaySays ask old new) _ new.calls status ends (λ calls. record {
    network = P;
    text = text;
    middle = middle;
    paired = paired;
    certificate = c;
    comes = comes;
    stored = subst (λ files. Stored files (Writing ask.certificate (spelling c)) new.files) paired.files (stored_at middle new ask.certificate (spelling c) middle.calls last same wrote.stored);
    calls = calls ∙ ap (says replayed_text) wrote.calls;
  }) tt

  says_run : (P : Network) (text : List ℕ) (middle : Outside) → ItsPair P text middle → RunsAgain P text ask.certificate middle new status → ReplaySays ask old new status
  says_run P text middle paired (replaying.disproved l kind fault same ends) = by (ReplaySays ask old new) _ new.calls status ends (λ calls. (P, text, l, kind, middle, paired, fault, (calls, same ∙ paired.files))) tt
  says_run P text middle paired (replaying.no_memory same ends) = by (ReplaySays ask old new) _ new.calls status ends (λ calls. (_, (calls, same ∙ paired.files))) tt
  says_run P text middle paired (replaying.replayed c comes (replaying.unopened same ends)) = by (ReplaySays ask old new) _ new.calls status ends (λ calls. tt) tt
  says_run P text middle paired (replaying.replayed c comes (replaying.put_out out)) = says_output P text middle c paired comes out

  says_replay : Replays ask old new status → ReplaySays ask old new status
  says_replay (replaying.unpaired same unpaired) =
      unpaired_by ask.format ask.file ask.recording old new.calls status (ReplaySays ask old new) tt (λ calls is. (calls, (is, same)))
      (λ bytes text refusal has certified refuses is. (text, certified, (bytes, refusal, has, refuses, (is, same)))) unpaired
  says_replay (replaying.runs P text middle paired run) = says_run P text middle paired run

  says_refused : (bytes : List ℕ) (refusal : FirstUnread) → Tells old ask.file bytes → RefusesAs ask.format bytes refusal → Replays ask old new status → (status ≡ Refused) ⊎ IsHindered status
  says_refused bytes refusal told refuses (replaying.unpaired same unpaired) = unpaired_refused ask.format ask.file ask.recording old new.calls status unpaired
  says_refused bytes refusal told refuses (replaying.runs P text middle paired run) =
      absurd (read_refused ask.format paired.bytes bytes P refusal (same_bytes old ask.file paired.bytes bytes told paired.has) paired.reads refuses)

  -- what was paired is what the desk tells
  network_is : (bytes text : List ℕ) (P Q : Network) (middle : Outside) → Tells old ask.file bytes → ReadsAs ask.format bytes P → ItsPair Q text middle → Q ≡ P
  network_is bytes text P Q middle told reads paired = read_one ask.format paired.bytes bytes Q P (same_bytes old ask.file paired.bytes bytes told paired.has) paired.reads reads

  text_is : (text other : List ℕ) (Q : Network) (middle : Outside) → Tells old ask.recording text → ItsPair Q other middle → other ≡ text
  text_is text other Q middle told paired = same_bytes old ask.recording other text told paired.certified

  says_replayed : (bytes text : List ℕ) (P : Network) (r : Record) → Tells old ask.file bytes → Tells old ask.recording text → ReadsAs ask.format bytes P → Spells r text → GoodRecord P r → Replays ask old new status → (status ≡ Done) ⊎ IsHindered status
  says_replayed bytes text P r told written reads spells good (replaying.unpaired same unpaired) = unpaired_hindered ask.format ask.file ask.recording old new.calls status Done bytes P told reads unpaired
  says_replayed bytes text P r told written reads spells good (replaying.runs Q other middle paired (replaying.disproved l kind fault same ends)) =
      let here = subst (λ t. faulty.Fault P t l kind) (text_is text other Q middle written paired) (subst (λ N. faulty.Fault N other l kind) (network_is bytes other P Q middle told reads paired) fault) in
      absurd (no_fault_where_good P text r l kind spells good here)
  says_replayed bytes text P r told written reads spells good (replaying.runs Q other middle paired (replaying.no_memory same ends)) = by_due Done _ new.calls status ends (inr (inr refl))
  says_replayed bytes text P r told written reads spells good (replaying.runs Q other middle paired (replaying.replayed c comes (replaying.unopened same ends))) = by_due Done _ new.calls status ends (inr (inl refl))
  says_replayed bytes text P r told written reads spells good (replaying.runs Q other middle paired (replaying.replayed c comes (replaying.put_out (endings.unwritten last not same ends)))) = by_due Done _ new.calls status ends (inr (inl refl))
  says_replayed bytes text P r told written reads spells good (replaying.runs Q other middle paired (replaying.replayed c comes (replaying.put_out (endings.wrote last wrote same ends)))) = by_due Done _ new.calls status ends (inl refl)

  says_refuted : (bytes text : List ℕ) (P : Network) (l : ℕ) (kind : RecordFault) → Tells old ask.file bytes → Tells old ask.recording text → ReadsAs ask.format bytes P → faulty.Fault P text l kind → Replays ask old new status → (status ≡ Disproved) ⊎ IsHindered status
  says_refuted bytes text P l kind told written reads fault (replaying.unpaired same unpaired) = unpaired_hindered ask.format ask.file ask.recording old new.calls status Disproved bytes P told reads unpaired
  says_refuted bytes text P l kind told written reads fault (replaying.runs Q other middle paired (replaying.disproved m sort also same ends)) = by_due Disproved _ new.calls status ends (inl refl)
  says_refuted bytes text P l kind told written reads fault (replaying.runs Q other middle paired (replaying.no_memory same ends)) = by_due Disproved _ new.calls status ends (inr (inr refl))
  says_refuted bytes text P l kind told written reads fault (replaying.runs Q other middle paired (replaying.replayed c comes writes)) =
      let here = subst (λ t. ComesTo P t c) (text_is text other Q middle written paired) (subst (λ N. ComesTo N other c) (network_is bytes other P Q middle told reads paired) comes) in
      absurd (no_fault_where_good P text here.its l kind here.spells here.good fault)

  -- memory was refused before the words were understood
  pub replay_unheard : new.files ≡ old.files → Ends (unheard old) new.calls status → ReplayStatus ask old new status
  replay_unheard same ends = record {
    says = by (ReplaySays ask old new) _ new.calls status ends (λ calls. (_, (calls, same))) tt;
    refused = (λ bytes refusal told refuses. inr (hindered old new status ends));
    replayed = (λ bytes text P r told written reads spells good. inr (hindered old new status ends));
    refuted = (λ bytes text P l kind told written reads fault. inr (hindered old new status ends));
  }

  pub replay_status : Replays ask old new status → ReplayStatus ask old new status
  replay_status replays = record {
    says = says_replay replays;
    refused = (λ bytes refusal told refuses. says_refused bytes refusal told refuses replays);
    replayed = (λ bytes text P r told written reads spells good. says_replayed bytes text P r told written reads spells good replays);
    refuted = (λ bytes text P l kind told written reads fault. says_refuted bytes text P l kind told written reads fault replays);
  }

  -- the count of failed calls, and that no file is being written
  pub replay_counts : Replays ask old new status → Counts old.calls new.calls status
  replay_counts (replaying.unpaired same unpaired) = unpaired_counts ask.format ask.file ask.recording old new.calls status unpaired
  replay_counts (replaying.runs P text middle paired (replaying.disproved l kind fault same ends)) = counted old.calls _ new.calls status ends (pair_faults ask.format ask.file ask.recording old P text middle paired)
  replay_counts (replaying.runs P text middle paired (replaying.no_memory same ends)) = counted old.calls _ new.calls status ends (pair_faults ask.format ask.file ask.recording old P text middle paired)
  replay_counts (replaying.runs P text middle paired (replaying.replayed c comes (replaying.unopened same ends))) =
      let before = pair_faults ask.format ask.file ask.recording old P text middle paired in
      counted old.calls _ new.calls status ends (let more : faults old.calls < suc (faults middle.calls) = omega (arith, before) in more)
  replay_counts (replaying.runs P text middle paired (replaying.replayed c comes (replaying.put_out out))) =
      output_counts _ new (spelling c) replayed_text Done status old.calls (pair_faults ask.format ask.file ask.recording old P text middle paired) (λ now same. same) out

  pub replay_idle : Replays ask old new status → IsIdle old.calls → IsIdle new.calls
  replay_idle (replaying.unpaired same unpaired) idle = unpaired_idle ask.format ask.file ask.recording old new.calls status unpaired idle
  replay_idle (replaying.runs P text middle paired (replaying.disproved l kind fault same ends)) idle = ends_idle _ new.calls status ends (pair_idle ask.format ask.file ask.recording old P text middle paired idle)
  replay_idle (replaying.runs P text middle paired (replaying.no_memory same ends)) idle = ends_idle _ new.calls status ends (pair_idle ask.format ask.file ask.recording old P text middle paired idle)
  replay_idle (replaying.runs P text middle paired (replaying.replayed c comes (replaying.unopened same ends))) idle = ends_idle _ new.calls status ends refl
  replay_idle (replaying.runs P text middle paired (replaying.replayed c comes (replaying.put_out out))) idle = output_idle _ new (spelling c) replayed_text Done status out
