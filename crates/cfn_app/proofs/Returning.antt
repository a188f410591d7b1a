-- What a record comes to, and that a recorded run's certificate comes again from its record.
use Rattle.std.proofs.Common.{◌≡◌, inl, inr, ℕ, true, false, List, refl, sym, ap, ◌∙◌, subst}
use Rattle.std.specs.Prelude.{Result, Ok, Err, is_ok, is_err}
use Rattle.cfn_model.specs.declared.report.ResultWord.{ResultWord}
use Rattle.cfn_model.specs.Network.{Network, IsNetwork}
use Rattle.cfn_model.specs.Certificate.{Certificate}
use Rattle.cfn_model.specs.Text.{spelling}
use Rattle.cfn_model.proofs.CallerLemmas.{lower_bounds}
use Rattle.cfn_machine.specs.Word.{all_shares}
use Rattle.cfn_machine.specs.Pool.{tree_of}
use Rattle.cfn_record.specs.Entries.{Runs}
use Rattle.cfn_record.specs.Lines.{Record, Spells}
use Rattle.cfn_record.specs.Replaying.{GoodRecord, certificate_of, opening}
use Rattle.cfn_record.proofs.CallerLemmas.{one_end, one_record}
use Rattle.cfn_certwrite.specs.Records as records
use Rattle.cfn_certwrite.specs.RecordTexts.{replayed_text}
use Rattle.cfn_replay.specs.Replayed.{IsReplayed}
use Rattle.cfn_desk.specs.Outside.{Outside, Open, Stored, Writing, after}
use Rattle.cfn_cli.specs.Request.Recording.{RecordedRequest}
use Rattle.cfn_cli.specs.Request.Replaying.{ReplayRequest}
use Rattle.cfn_app.specs.declared.status.Status.{Status}
use Rattle.cfn_app.specs.declared.status.Status.TheVariants.{Done}
use Rattle.cfn_app.specs.Endings.{Outputs}
use Rattle.cfn_app.specs.Loading.{ReadsAs, Tells}
use Rattle.cfn_app.specs.Runs.Recording.{Recorded}
use Rattle.cfn_app.specs.Runs.Replaying.{ComesBack, ComesTo, Replayed, ReplaySays, ReplayStatus, WritesAgain}
use Rattle.cfn_app.specs.Runs.Replaying as replaying
use Rattle.cfn_app.proofs.Files.{read_one, same_bytes}

-- the certificate that a record comes to
abbrev pub certificate_in : (P : Network) (text bytes : List ℕ) → IsReplayed P text bytes → Certificate
certificate_in P text bytes is = certificate_of P is.its.best (tree_of is.good.pool.tree)

-- a record that was run again
pub comes_to : (P : Network) (text bytes : List ℕ) → IsNetwork P → (is : IsReplayed P text bytes) → ComesTo P text (certificate_in P text bytes is)
comes_to P text bytes network is = record {
  its = is.its;
  spells = is.spells;
  good = is.good;
  comes = refl;
  verifies = record {
    spells = record { spelled = is.comes.spelled; exact = refl };
    good = is.good.good;
    network = network;
    bounds = (λ values fits. lower_bounds P (certificate_in P text bytes is) values network is.good.good fits);
  };
}

-- a text behind a file that was opened
pub again_behind : {T E : Type 0} (text out : List ℕ) (old middle new : Outside) (opened : Result T E) (status : Status) → is_err opened ≡ false → middle ≡ after (Open out (is_ok opened)) old →
    Outputs text replayed_text Done middle new status → WritesAgain text out old new status
again_behind text out old middle new (Ok x) status fine at put = replaying.put_out (subst (λ o. Outputs text replayed_text Done o new status) at put)
again_behind text out old middle new (Err e) status fine at put = absurd (let no : true ≡ false = fine in cc)

-- ---- a recorded run comes back

-- one record of a network comes to one certificate
one_certificate : (P : Network) (r s : Record) (one : GoodRecord P r) (other : GoodRecord P s) → r ≡ s → certificate_of P r.best (tree_of one.pool.tree) ≡ certificate_of P s.best (tree_of other.pool.tree)
one_certificate P r s one other same =
    let same_pool = one_end P all_shares all_shares r.budget r.entries one.pool other.pool one.run
    (subst (λ (q : Record). Runs P (opening P q.budget) q.entries other.pool) (sym same) other.run) in
    ap (λ t. certificate_of P r.best (tree_of t)) (sym same_pool.tree) ∙ ap (λ (q : Record). certificate_of P q.best (tree_of other.pool.tree)) same

-- so it does of a text, of a network that two files read as
come_again : (P Q : Network) (text other : List ℕ) (c d : Certificate) (r : Record) (good : GoodRecord P r) → Spells r text → certificate_of P r.best (tree_of good.pool.tree) ≡ c → ComesTo Q other d → text ≡ other → P ≡ Q → c ≡ d
come_again P Q text other c d r good spells comes to same network =
    let here = subst (λ t. ComesTo P t d) (sym same) (subst (λ N. ComesTo N other d) (sym network) to) in
    sym comes ∙ one_certificate P r here.its good here.good (one_record text r here.its spells here.spells) ∙ here.comes

module _ (ask : ReplayRequest) (old new : Outside) (status : Status) where
  -- the run that was recorded, and what was replayed
  written_again : (earlier : RecordedRequest) (before behind : Outside) (word : ResultWord) (run : Recorded earlier before behind word) → ask.format ≡ earlier.solve.format → Tells old ask.file run.certified.bytes → Tells old ask.recording (records.spelling run.recording)
      → Replayed ask old new → Stored old.files (Writing ask.certificate (spelling run.certified.certificate)) new.files
  written_again earlier before behind word run format file recording again =
      let reads = subst (λ f. ReadsAs f run.certified.bytes run.certified.network) (sym format) run.certified.reads in
      let bytes = same_bytes old ask.file again.paired.bytes run.certified.bytes file again.paired.has in
      let text = same_bytes old ask.recording again.text (records.spelling run.recording) recording again.paired.certified in
      let network = read_one ask.format run.certified.bytes again.paired.bytes run.certified.network again.network (sym bytes) reads again.paired.reads in
      let same = come_again run.certified.network again.network (records.spelling run.recording) again.text run.certified.certificate again.certificate run.recording run.is.good run.is.spells run.is.comes again.comes (sym text) network in
      subst (λ c. Stored old.files (Writing ask.certificate (spelling c)) new.files) (sym same) again.stored

  pub comes_back : ReplayStatus ask old new status → ComesBack ask old new status
  comes_back says earlier before behind word run format file recording =
      let reads = subst (λ f. ReadsAs f run.certified.bytes run.certified.network) (sym format) run.certified.reads in
      elim (says.replayed run.certified.bytes (records.spelling run.recording) run.certified.network run.recording file recording reads run.is.spells run.is.good) [
        | inl done ↦ inl (done, written_again earlier before behind word run format file recording (subst (ReplaySays ask old new) done says.says))
        | inr hindered ↦ inr hindered
      ]
