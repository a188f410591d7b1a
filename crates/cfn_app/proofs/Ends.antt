-- How a run ends, from what its parts did.
use Rattle.std.proofs.Common.{◌≡◌, ℕ, true, false, List, ◌∷◌, refl, ap, ◌∙◌, subst}
use Rattle.std.specs.Prelude.{Result, Ok, Err, IsErr, OnOk, OnErr, is_ok, is_err, if◌then◌else◌, length}
use Rattle.cfn_wcnf.specs.declared.fault.Unread.{Unread as FirstUnread}
use Rattle.cfn_wcnf.specs.declared.fault.Unread.TheVariants.{Header, Word}
use Rattle.cfn_model.specs.declared.reading.Refusal.{Refusal}
use Rattle.cfn_model.specs.declared.report.Row.{Row}
use Rattle.cfn_model.specs.declared.report.ResultWord.{ResultWord}
use Rattle.cfn_model.specs.Network.{Network, Least}
use Rattle.cfn_model.specs.Certificate.{Certificate}
use Rattle.cfn_model.specs.Reading.{reading}
use Rattle.cfn_model.specs.Text.{spelling, report, write_fault_text}
use Rattle.cfn_report.specs.Texts.{migrated_text, trial_text}
use Rattle.cfn_desk.specs.Outside.{Outside, Call, Load, Open, Bytes, Discard, HasFile, after, says}
use Rattle.cfn_line.specs.Appending.{Appends, IsCut}
use Rattle.cfn_line.specs.declared.channel.Channel.TheVariants.{File, Screen}
use Rattle.cfn_cli.specs.Request.Solving.{SolveRequest}
use Rattle.cfn_cli.specs.Request.Costing.{CostRequest}
use Rattle.cfn_cli.specs.Request.Normalizing.{NormalRequest}
use Rattle.cfn_cli.specs.Request.Trying.{TrialRequest}
use Rattle.cfn_cli.specs.declared.format.Format.TheVariants.{Wcsp, Wcnf}
use Rattle.cfn_wcnf.specs.Giving.{Fails}
use Rattle.cfn_wcnf.specs.Reading.{in_words}
use Rattle.cfn_wcnf.specs.declared.fault.ReadFault.{ReadFault}
use Rattle.cfn_wcnf.specs.declared.fault.ReadFault.TheVariants as faults
use Rattle.cfn_cli.specs.declared.format.Format.{Format}
use Rattle.cfn_app.specs.declared.status.Status.{Status}
use Rattle.cfn_app.specs.declared.status.Status.TheVariants.{Done, Fault}
use Rattle.cfn_app.specs.Endings.{Ends, said, cut}
use Rattle.cfn_low.specs.Outcome.{Start, fresh}
use Rattle.cfn_app.specs.Headline.{Promise}
use Rattle.cfn_app.specs.Loading.{ReadsAs, RefusesAs, SaysUnread, read_as, Unloaded, Unread, loaded}
use Rattle.cfn_app.specs.Loading as loading
use Rattle.cfn_wcspwrite.specs.Canonical.{canonical}
use Rattle.cfn_app.specs.Runs.Normalizing.{Normalizes}
use Rattle.cfn_app.specs.Runs.Normalizing as normalizing
use Rattle.cfn_app.specs.Runs.Costing.{Costs, Prices}
use Rattle.cfn_app.specs.Runs.Costing as costing
use Rattle.cfn_app.specs.Endings.{Outputs, Wrote, NotWritten}
use Rattle.cfn_app.specs.Endings as endings
use Rattle.cfn_app.specs.Runs.Solving.{Solves, Searches, limits_of, status_of}
use Rattle.cfn_app.specs.Runs.Solving as solving
use Rattle.cfn_gen.specs.Generator.{instance}
use Rattle.cfn_app.specs.Runs.Trying.{Tries, trial_text_of}
use Rattle.cfn_app.specs.Runs.Trying as trying
use Rattle.cfn_app.specs.Runs.Migrating.{Rewrites}
use Rattle.cfn_app.specs.Runs.Migrating as migrating

-- a text that is said last
pub ends_saying : {T E : Type 0} (calls : List Call) (before now : Outside) (text : List ℕ) (result : Result T E) (due status : Status) → before.calls ≡ calls → Appends Screen before text result now → status ≡ (if is_ok result then due else Fault) → Ends (record { calls = calls; text = text; status = due }) now.calls status
ends_saying calls before now text (Ok x) due status same one is = said (subst (λ (cs : List Call). now.calls ≡ says text cs) same one.sends) is
ends_saying calls before now text (Err e) due status same one is = cut (subst (λ (cs : List Call). IsCut Screen cs text now.calls) same one.cut) is

-- a certificate of which a piece could not be put, and whose file was dropped
pub not_written : {T E : Type 0} (text : List ℕ) (old mid new : Outside) (result : Result T E) → IsErr result → Appends File old text result mid → new ≡ after Discard mid → NotWritten text old new
not_written text old mid new (Ok x) failed one at = absurd (let no : false ≡ true = failed in cc)
not_written text old mid new (Err e) failed one at =
    endings.dropped mid.calls one.cut (at ∙ ap (λ files. record { calls = Discard ∷ mid.calls; files = files }) one.files)

-- bytes that the reader does not take
refuses_as : (format : Format) (bytes : List ℕ) (refusal : FirstUnread) → read_as format bytes ≡ Err refusal → RefusesAs format bytes refusal
refuses_as Wcsp bytes (Header ordinal) refuses = word_only (reading bytes) ordinal refuses
  where
    word_only : (r : Result Network Refusal) (ordinal : ℕ) → in_words r ≡ Err (Header ordinal) → ⊥
    word_only (Ok P) ordinal e = absurd cc
    word_only (Err r) ordinal e = absurd cc
refuses_as Wcsp bytes (Word refusal) refuses = word_of (reading bytes) refusal refuses
  where
    word_of : (r : Result Network Refusal) (refusal : Refusal) → in_words r ≡ Err (Word refusal) → r ≡ Err refusal
    word_of (Ok P) refusal e = absurd cc
    word_of (Err r) refusal e = let same : r ≡ refusal = cc in ap (λ r. Err r) same
refuses_as Wcnf bytes refusal refuses = refuses

pub unread_by : (format : Format) (bytes : List ℕ) (fault : ReadFault) (calls now : List Call) (status : Status) → Fails fault (read_as format bytes) → SaysUnread fault calls now status → Unread format bytes calls now status
unread_by format bytes (faults.Unread first) calls now status fails says = loading.refused first (refuses_as format bytes first fails) says
unread_by format bytes faults.Memory calls now status fails says = loading.no_memory says

pub reads_as : (format : Format) (bytes : List ℕ) (P : Network) → read_as format bytes ≡ Ok P → ReadsAs format bytes P
reads_as Wcsp bytes P reads = word_read (reading bytes) reads
  where
    word_read : (r : Result Network Refusal) → in_words r ≡ Ok P → r ≡ Ok P
    word_read (Ok Q) e = let same : Q ≡ P = cc in ap (λ Q. Ok Q) same
    word_read (Err r) e = absurd cc
reads_as Wcnf bytes P reads = reads

-- the report is said behind a certificate that was written, and else that it was not
pub outputs_unwritten : {T E U F : Type 0} (text said_text : List ℕ) (due : Status) (old middle new : Outside) (result : Result T E) (said : Result U F) (status : Status) → is_err result ≡ true → OnErr result (NotWritten text old middle) → Appends Screen middle write_fault_text said new → status ≡ (if is_ok said then Fault else Fault) → Outputs text said_text due old new status
outputs_unwritten text said_text due old middle new (Ok x) spoken status failed not one is = absurd (let no : false ≡ true = failed in cc)
outputs_unwritten text said_text due old middle new (Err e) spoken status failed not one is =
    endings.unwritten middle not one.files (ends_saying middle.calls middle new write_fault_text spoken Fault status refl one is)

pub outputs_written : {T E U F : Type 0} (text said_text : List ℕ) (due : Status) (old middle new : Outside) (result : Result T E) (said : Result U F) (status : Status) → is_err result ≡ false → OnOk result (Wrote text old middle) → Appends Screen middle said_text said new → status ≡ (if is_ok said then due else Fault) → Outputs text said_text due old new status
outputs_written text said_text due old middle new (Ok x) spoken status fine wrote one is =
    endings.wrote middle wrote one.files (ends_saying middle.calls middle new said_text spoken due status refl one is)
outputs_written text said_text due old middle new (Err e) spoken status fine wrote one is = absurd (let no : true ≡ false = fine in cc)

-- so where how the run ended behind it is known
pub outputs_ended : {T E : Type 0} (text said_text : List ℕ) (due : Status) (old middle new : Outside) (result : Result T E) (status : Status) → is_err result ≡ false → OnOk result (Wrote text old middle) → new.files ≡ middle.files → Ends (record { calls = middle.calls; text = said_text; status = due }) new.calls status → Outputs text said_text due old new status
outputs_ended text said_text due old middle new (Ok x) status fine wrote same ends = endings.wrote middle wrote same ends
outputs_ended text said_text due old middle new (Err e) status fine wrote same ends = absurd (let no : true ≡ false = fine in cc)

-- a search behind a file that was opened
pub searched_behind : {T E : Type 0} (P : Network) (start : Start) (ask : SolveRequest) (old middle new : Outside) (opened : Result T E) (status : Status) (nodes : ℕ) (c : Certificate) (rows : List Row) (word : ResultWord) → is_err opened ≡ false → middle ≡ after (Open ask.certificate (is_ok opened)) old →
    Promise P start (limits_of ask) nodes c rows word → Outputs (spelling c) (report ask.workers c rows nodes word) (status_of word) middle new status → Searches P start ask old new status
searched_behind P start ask old middle new (Ok x) status nodes c rows word fine at promise out =
    solving.searched nodes c rows word promise (subst (λ o. Outputs (spelling c) (report ask.workers c rows nodes word) (status_of word) o new status) at out)
searched_behind P start ask old middle new (Err e) status nodes c rows word fine at promise out = absurd (let no : true ≡ false = fine in cc)

-- a text that is written behind a file that was opened
pub rewritten_behind : {T E : Type 0} (second out : List ℕ) (old middle new : Outside) (opened : Result T E) (status : Status) → is_err opened ≡ false → middle ≡ after (Open out (is_ok opened)) old →
    Outputs second migrated_text Done middle new status → Rewrites second out old new status
rewritten_behind second out old middle new (Ok x) status fine at put = migrating.put_out (subst (λ o. Outputs second migrated_text Done o new status) at put)
rewritten_behind second out old middle new (Err e) status fine at put = absurd (let no : true ≡ false = fine in cc)

module _ (old : Outside) (now : List Call) (status : Status) where
  -- the calls after one load
  once : (middle last : Outside) (file bytes : List ℕ) → middle ≡ after (Load file (Bytes bytes)) old → last ≡ middle → last.calls ≡ loaded file bytes old.calls
  once middle last file bytes at same = ap (λ o. o.calls) same ∙ ap (λ o. o.calls) at

  -- the cost of an assignment was asked for
  pub costs_priced : (middle last : Outside) (ask : CostRequest) (bytes : List ℕ) (P : Network) → HasFile old ask.file bytes → middle ≡ after (Load ask.file (Bytes bytes)) old → ReadsAs ask.format bytes P → last ≡ middle → Prices P ask.values last.calls now status → Costs ask old now status
  costs_priced middle last ask bytes P has at reads same prices =
      costing.priced bytes P has reads (subst (λ (cs : List Call). Prices P ask.values cs now status) (once middle last ask.file bytes at same) prices)

  pub costs_unread : (middle : Outside) (ask : CostRequest) (bytes : List ℕ) → HasFile old ask.file bytes → middle ≡ after (Load ask.file (Bytes bytes)) old → Unread ask.format bytes middle.calls now status → Costs ask old now status
  costs_unread middle ask bytes has at unread =
      costing.unread bytes has (subst (λ (cs : List Call). Unread ask.format bytes cs now status) (ap (λ o. o.calls) at) unread)

  -- the canonical text was asked for
  pub normalizes_read : (middle last : Outside) (ask : NormalRequest) (bytes : List ℕ) (P : Network) → HasFile old ask.file bytes → middle ≡ after (Load ask.file (Bytes bytes)) old → ReadsAs ask.format bytes P → ReadsAs Wcsp (canonical P) P → last ≡ middle → Ends (record { calls = last.calls; text = canonical P; status = Done }) now status → Normalizes ask old now status
  normalizes_read middle last ask bytes P has at reads again same ends =
      normalizing.normalized bytes P has reads again (subst (λ (cs : List Call). Ends (record { calls = cs; text = canonical P; status = Done }) now status) (once middle last ask.file bytes at same) ends)

  pub normalizes_unread : (middle : Outside) (ask : NormalRequest) (bytes : List ℕ) → HasFile old ask.file bytes → middle ≡ after (Load ask.file (Bytes bytes)) old → Unread ask.format bytes middle.calls now status → Normalizes ask old now status
  normalizes_unread middle ask bytes has at unread =
      normalizing.unread bytes has (subst (λ (cs : List Call). Unread ask.format bytes cs now status) (ap (λ o. o.calls) at) unread)

module _ (old new : Outside) (status : Status) where
  -- a network was to be searched
  pub solves_unread : (middle : Outside) (ask : SolveRequest) (bytes : List ℕ) → HasFile old ask.file bytes → middle ≡ after (Load ask.file (Bytes bytes)) old → new.files ≡ middle.files → Unread ask.format bytes middle.calls new.calls status → Solves ask old new status
  solves_unread middle ask bytes has at same unread =
      solving.unread bytes has (same ∙ ap (λ o. o.files) at) (subst (λ (cs : List Call). Unread ask.format bytes cs new.calls status) (ap (λ o. o.calls) at) unread)

  pub solves_read : (middle last : Outside) (ask : SolveRequest) (bytes : List ℕ) (P : Network) → HasFile old ask.file bytes → middle ≡ after (Load ask.file (Bytes bytes)) old → ReadsAs ask.format bytes P → last ≡ middle → Searches P (fresh P) ask last new status → Solves ask old new status
  solves_read middle last ask bytes P has at reads same searches =
      solving.read bytes P has reads (subst (λ o. Searches P (fresh P) ask o new status) (same ∙ at) searches)

-- a network was drawn and solved
pub tried : {T E : Type 0} (ask : TrialRequest) (P : Network) (least variables functions : ℕ) (before now : Outside) (result : Result T E) (status : Status) → P ≡ instance ask.seed ask.size → variables ≡ length P.sizes → functions ≡ length P.functions → Least P least →
    Appends Screen before (trial_text variables functions least) result now → status ≡ (if is_ok result then Done else Fault) → Tries ask before.calls now.calls status
tried ask P least variables functions before now result status drawn some many is one due =
    let text : trial_text variables functions least ≡ trial_text_of (instance ask.seed ask.size) least =
    ap (λ v. trial_text v functions least) some ∙ ap (λ e. trial_text (length P.sizes) e least) many ∙ ap (λ Q. trial_text_of Q least) drawn in
    trying.solved least (subst (λ Q. Least Q least) drawn is)
    (ends_saying before.calls before now (trial_text_of (instance ask.seed ask.size) least) result Done status refl (subst (λ (t : List ℕ). Appends Screen before t result now) text one) due)
