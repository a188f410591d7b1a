-- What each status of `rebase` says, from how a run of it ends.
use Rattle.std.proofs.Common.{◌≡◌, ◌⊎◌, inl, inr, ℕ, true, List, refl, sym, ap, ◌∙◌, subst}
use Rattle.cfn_model.specs.declared.report.Row.{Row}
use Rattle.cfn_model.specs.declared.report.ResultWord.{ResultWord}
use Rattle.cfn_model.specs.declared.report.ResultWord.TheVariants as words
use Rattle.cfn_wcnf.specs.declared.fault.Unread.{Unread as FirstUnread}
use Rattle.cfn_model.specs.Network.{Network}
use Rattle.cfn_model.specs.Certificate.{Certificate}
use Rattle.cfn_model.specs.Text.{Spells, spelling, report}
use Rattle.cfn_fault.specs.Fault.{TextFault}
use Rattle.cfn_fault.proofs.CallerLemmas.{no_text_fault_where_spelled}
use Rattle.cfn_desk.specs.Outside.{Outside, Open, IsIdle, Stored, Writing, after, says}
use Rattle.cfn_low.specs.Outcome.{Start}
use Rattle.cfn_rebase.specs.Resuming.{Resumes}
use Rattle.cfn_cli.specs.Request.Rebasing.{RebaseRequest}
use Rattle.cfn_app.specs.declared.status.Status.{Status}
use Rattle.cfn_app.specs.declared.status.Status.TheVariants.{Refused, Disproved}
use Rattle.cfn_app.specs.Endings.{Ends, IsHindered, Outputs}
use Rattle.cfn_app.specs.Endings as endings
use Rattle.cfn_app.specs.Headline.{Promise}
use Rattle.cfn_app.specs.Loading.{ReadsAs, RefusesAs, Tells}
use Rattle.cfn_app.specs.Saying.{Counts}
use Rattle.cfn_app.specs.Runs.Solving.{Searches, IsReported, limits_of, status_of}
use Rattle.cfn_app.specs.Runs.Solving as solving
use Rattle.cfn_app.specs.Runs.Rebasing.{Rebases, Rebased, RebaseSays, RebaseStatus, WentOn, part_of}
use Rattle.cfn_app.specs.Runs.Rebasing as rebasing
use Rattle.cfn_app.proofs.Counting.{by, counted, ends_idle, hindered, unheard, by_due}
use Rattle.cfn_app.proofs.Files.{same_bytes, read_refused}
use Rattle.cfn_app.proofs.Pairing.{unpaired_by, unpaired_refused, unpaired_hindered, unpaired_counts, unpaired_idle, pair_faults, pair_idle}
use Rattle.cfn_app.proofs.Stating.Solving.{search_reported, search_counts, search_idle}
use Rattle.cfn_app.proofs.Writing.{stored_at}

module _ (ask : RebaseRequest) (old new : Outside) where
  reported : (word : ResultWord) → WentOn ask old new word → RebaseSays ask old new (status_of word)
  reported words.Optimum went = went
  reported words.Nothing went = went
  reported words.Budget went = inl went
  reported words.Time went = inr (inl went)
  reported words.Part went = inr (inr went)
  reported words.Memory went = inr went

  module _ (status : Status) where
    says_output : (P : Network) (text : List ℕ) (middle : Outside) (start : Start) (nodes : ℕ) (c : Certificate) (rows : List Row) (word : ResultWord) → Rebased ask old P text middle → Resumes P (part_of ask) text start → Promise P start (limits_of ask.solve) nodes c rows word →
        Outputs (spelling c) (report ask.solve.workers c rows nodes word) (status_of word) (after (Open ask.solve.certificate true) middle) new status → RebaseSays ask old new status
    says_output P text middle start nodes c rows word paired resumes promise (endings.unwritten last not same ends) = by (RebaseSays ask old new) _ new.calls status ends (λ calls. tt) tt
    says_output P text middle start nodes c rows word paired resumes promise (endings.wrote last wrote same ends) = by (RebaseSays ask old new) _ new.calls status ends (λ calls. reported word (record {
      network = P;
      text = text;
      middle = middle;
      paired = paired;
      start = start;
      resumes = resumes;
      nodes = nodes;
      certificate = c;
      rows = rows;
      promise = promise;
      stored = subst (λ files. Stored files (Writing ask.solve.certificate (spelling c)) new.files) paired.files (stored_at middle new ask.solve.certificate (spelling c) middle.calls last same wrote.stored);
      calls = calls ∙ ap (says (report ask.solve.workers c rows nodes word)) wrote.calls;
    })) tt

    says_search : (P : Network) (text : List ℕ) (middle : Outside) (start : Start) → Rebased ask old P text middle → Resumes P (part_of ask) text start → Searches P start ask.solve middle new status → RebaseSays ask old new status
    says_search P text middle start paired resumes (solving.unbegun same ends) = by (RebaseSays ask old new) _ new.calls status ends (λ calls. inl (_, (calls, same ∙ paired.files))) tt
    says_search P text middle start paired resumes (solving.unopened same ends) = by (RebaseSays ask old new) _ new.calls status ends (λ calls. tt) tt
    says_search P text middle start paired resumes (solving.no_memory same ends) = by (RebaseSays ask old new) _ new.calls status ends (λ calls. inl (_, (calls, same ∙ paired.files))) tt
    says_search P text middle start paired resumes (solving.searched nodes c rows word promise out) = says_output P text middle start nodes c rows word paired resumes promise out

    says_rebase : Rebases ask old new status → RebaseSays ask old new status
    says_rebase (rebasing.unpaired same unpaired) =
        unpaired_by ask.solve.format ask.solve.file ask.old old new.calls status (RebaseSays ask old new) tt (λ calls is. inl (calls, (is, same)))
        (λ bytes text refusal has certified refuses is. (text, certified, (bytes, refusal, has, refuses, (is, same)))) unpaired
    says_rebase (rebasing.goes_on P text middle paired (rebasing.unspelled l fault same ends)) = by (RebaseSays ask old new) _ new.calls status ends (λ calls. (P, text, l, middle, paired, fault, (calls, same ∙ paired.files))) tt
    says_rebase (rebasing.goes_on P text middle paired (rebasing.no_memory same ends)) = by (RebaseSays ask old new) _ new.calls status ends (λ calls. inl (_, (calls, same ∙ paired.files))) tt
    says_rebase (rebasing.goes_on P text middle paired (rebasing.searches start resumes search)) = says_search P text middle start paired resumes search

    says_refused : (bytes : List ℕ) (refusal : FirstUnread) → Tells old ask.solve.file bytes → RefusesAs ask.solve.format bytes refusal → Rebases ask old new status → (status ≡ Refused) ⊎ IsHindered status
    says_refused bytes refusal told refuses (rebasing.unpaired same unpaired) = unpaired_refused ask.solve.format ask.solve.file ask.old old new.calls status unpaired
    says_refused bytes refusal told refuses (rebasing.goes_on P text middle paired goes) =
        absurd (read_refused ask.solve.format paired.bytes bytes P refusal (same_bytes old ask.solve.file paired.bytes bytes told paired.has) paired.reads refuses)

    says_went_on : (bytes text : List ℕ) (P : Network) (c : Certificate) → Tells old ask.solve.file bytes → Tells old ask.old text → ReadsAs ask.solve.format bytes P → Spells c text → Rebases ask old new status → IsReported status ⊎ IsHindered status
    says_went_on bytes text P c told written reads spells (rebasing.unpaired same unpaired) =
        unpaired_by ask.solve.format ask.solve.file ask.old old new.calls status (λ s. IsReported s ⊎ IsHindered s) (inr (inl refl)) (λ calls is. inr (inr refl))
        (λ other words refusal has certified refuses is. absurd (read_refused ask.solve.format bytes other P refusal (sym (same_bytes old ask.solve.file other bytes told has)) reads refuses)) unpaired
    says_went_on bytes text P c told written reads spells (rebasing.goes_on Q words middle paired (rebasing.unspelled l fault same ends)) =
        absurd (no_text_fault_where_spelled text c l spells (subst (λ w. TextFault w l) (same_bytes old ask.old words text written paired.certified) fault))
    says_went_on bytes text P c told written reads spells (rebasing.goes_on Q words middle paired (rebasing.no_memory same ends)) = inr (by IsHindered _ new.calls status ends (λ calls. inr refl) (inl refl))
    says_went_on bytes text P c told written reads spells (rebasing.goes_on Q words middle paired (rebasing.searches start resumes search)) = search_reported ask.solve old new status Q start middle search

    says_unspelled : (bytes text : List ℕ) (P : Network) (l : ℕ) → Tells old ask.solve.file bytes → Tells old ask.old text → ReadsAs ask.solve.format bytes P → TextFault text l → Rebases ask old new status → (status ≡ Disproved) ⊎ IsHindered status
    says_unspelled bytes text P l told written reads fault (rebasing.unpaired same unpaired) = unpaired_hindered ask.solve.format ask.solve.file ask.old old new.calls status Disproved bytes P told reads unpaired
    says_unspelled bytes text P l told written reads fault (rebasing.goes_on Q words middle paired (rebasing.unspelled m other same ends)) = by_due Disproved _ new.calls status ends (inl refl)
    says_unspelled bytes text P l told written reads fault (rebasing.goes_on Q words middle paired (rebasing.no_memory same ends)) = by_due Disproved _ new.calls status ends (inr (inr refl))
    says_unspelled bytes text P l told written reads fault (rebasing.goes_on Q words middle paired (rebasing.searches start resumes search)) =
        absurd (no_text_fault_where_spelled text resumes.certificate l (subst (Spells resumes.certificate) (same_bytes old ask.old words text written paired.certified) resumes.spells) fault)

    -- memory was refused before the words were understood
    pub rebase_unheard : new.files ≡ old.files → Ends (unheard old) new.calls status → RebaseStatus ask old new status
    rebase_unheard same ends = record {
      says = by (RebaseSays ask old new) _ new.calls status ends (λ calls. inl (_, (calls, same))) tt;
      refused = (λ bytes refusal told refuses. inr (hindered old new status ends));
      went_on = (λ bytes text P c told written reads spells. inr (hindered old new status ends));
      unspelled = (λ bytes text P l told written reads fault. inr (hindered old new status ends));
    }

    pub rebase_status : Rebases ask old new status → RebaseStatus ask old new status
    rebase_status rebases = record {
      says = says_rebase rebases;
      refused = (λ bytes refusal told refuses. says_refused bytes refusal told refuses rebases);
      went_on = (λ bytes text P c told written reads spells. says_went_on bytes text P c told written reads spells rebases);
      unspelled = (λ bytes text P l told written reads fault. says_unspelled bytes text P l told written reads fault rebases);
    }

    pub rebase_counts : Rebases ask old new status → Counts old.calls new.calls status
    rebase_counts (rebasing.unpaired same unpaired) = unpaired_counts ask.solve.format ask.solve.file ask.old old new.calls status unpaired
    rebase_counts (rebasing.goes_on P text middle paired (rebasing.unspelled l fault same ends)) = counted old.calls _ new.calls status ends (pair_faults ask.solve.format ask.solve.file ask.old old P text middle paired)
    rebase_counts (rebasing.goes_on P text middle paired (rebasing.no_memory same ends)) = counted old.calls _ new.calls status ends (pair_faults ask.solve.format ask.solve.file ask.old old P text middle paired)
    rebase_counts (rebasing.goes_on P text middle paired (rebasing.searches start resumes search)) = search_counts ask.solve old new status P start old.calls middle (pair_faults ask.solve.format ask.solve.file ask.old old P text middle paired) search

    pub rebase_idle : Rebases ask old new status → IsIdle old.calls → IsIdle new.calls
    rebase_idle (rebasing.unpaired same unpaired) idle = unpaired_idle ask.solve.format ask.solve.file ask.old old new.calls status unpaired idle
    rebase_idle (rebasing.goes_on P text middle paired (rebasing.unspelled l fault same ends)) idle = ends_idle _ new.calls status ends (pair_idle ask.solve.format ask.solve.file ask.old old P text middle paired idle)
    rebase_idle (rebasing.goes_on P text middle paired (rebasing.no_memory same ends)) idle = ends_idle _ new.calls status ends (pair_idle ask.solve.format ask.solve.file ask.old old P text middle paired idle)
    rebase_idle (rebasing.goes_on P text middle paired (rebasing.searches start resumes search)) idle = search_idle ask.solve old new status P start middle (pair_idle ask.solve.format ask.solve.file ask.old old P text middle paired idle) search
