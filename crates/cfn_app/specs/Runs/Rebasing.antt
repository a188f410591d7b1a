-- The command `rebase`: how a run of it ends, and what each status of it says.
use Rattle.std.specs.Prelude.{◌≡◌, ℕ, ◌-◌, ◌==◌, true, List, ◌∷◌, ◌⊎◌, Option, Some, None, if◌then◌else◌}
use Rattle.cfn_model.specs.declared.report.Row.{Row}
use Rattle.cfn_model.specs.declared.report.ResultWord.{ResultWord}
use Rattle.cfn_model.specs.declared.report.ResultWord.TheVariants as words
use Rattle.cfn_model.specs.Network.{Network}
use Rattle.cfn_model.specs.Certificate.{Certificate}
use Rattle.cfn_model.specs.Text.{spelling, report, memory_fault_text, Spells}
use Rattle.cfn_fault.specs.declared.kind.FaultKind.TheVariants as kinds
use Rattle.cfn_fault.specs.Fault.{TextFault}
use Rattle.cfn_report.specs.Texts.{refused_text}
use Rattle.cfn_desk.specs.Outside.{Outside, Open, Close, Stored, Writing, puts, says}
use Rattle.cfn_machine.specs.declared.part.Part.{Part}
use Rattle.cfn_low.specs.Outcome.{Start}
use Rattle.cfn_rebase.specs.Resuming.{Resumes}
use Rattle.cfn_wcnf.specs.declared.fault.Unread.{Unread as FirstUnread}
use Rattle.cfn_cli.specs.Request.Rebasing.{RebaseRequest}
use Rattle.cfn_app.specs.declared.status.Status.{Status}
use Rattle.cfn_app.specs.declared.status.Status.TheVariants.{Done, Nothing, LimitSpent, Usage, Refused, Fault, NoMemory, Disproved}
use Rattle.cfn_app.specs.Endings.{Ends, IsHindered}
use Rattle.cfn_app.specs.Headline.{Promise}
use Rattle.cfn_app.specs.Loading.{Paired, Unpaired, ReadsAs, RefusesAs, Tells}
use Rattle.cfn_app.specs.Saying.{Says, SaysNoMemory, PairRefused}
use Rattle.cfn_app.specs.Runs.Solving.{Searches, IsReported, limits_of}

-- The network and the text of the certificate that is gone on from were loaded and read.
abbrev pub Rebased : RebaseRequest → Outside → Network → List ℕ → Outside → Type 0
Rebased ask old P text middle = Paired ask.solve.format ask.solve.file ask.old old P text middle

-- The part of the open leaves that is worked on: all of them, or one of several parts, counted from 0.
abbrev pub part_of : RebaseRequest → Option Part
part_of ask = if ask.parts == 1 then None else Some (record { number = ask.part - 1; parts = ask.parts })

-- What becomes of the text: it spells no certificate; or memory is refused; or a search goes on from what is kept of it.
pub data GoesOn (P : Network) (text : List ℕ) (ask : RebaseRequest) (old new : Outside) (status : Status) : Type 0 where
  unspelled : (l : ℕ) → TextFault text l → new.files ≡ old.files → Ends (record { calls = old.calls; text = refused_text kinds.Text l; status = Disproved }) new.calls status → GoesOn P text ask old new status
  no_memory : new.files ≡ old.files → Ends (record { calls = old.calls; text = memory_fault_text; status = NoMemory }) new.calls status → GoesOn P text ask old new status
  searches : (start : Start) → Resumes P (part_of ask) text start → Searches P start ask.solve old new status → GoesOn P text ask old new status

-- How a run of `rebase` ends: both files were not loaded and read; or it goes on.
pub data Rebases (ask : RebaseRequest) (old new : Outside) (status : Status) : Type 0 where
  unpaired : new.files ≡ old.files → Unpaired ask.solve.format ask.solve.file ask.old old new.calls status → Rebases ask old new status
  goes_on : (P : Network) (text : List ℕ) (middle : Outside) → Rebased ask old P text middle → GoesOn P text ask middle new status → Rebases ask old new status

-- ---- what its statuses say

-- The file's network was searched with this result, from what is kept of the certificate: the new one is written, and then its
-- report was said.
pub record WentOn (ask : RebaseRequest) (old new : Outside) (word : ResultWord) : Type 0 where
  pub network : Network
  pub text : List ℕ
  pub middle : Outside
  pub paired : Rebased ask old network text middle
  pub start : Start
  pub resumes : Resumes network (part_of ask) text start
  pub nodes : ℕ
  pub certificate : Certificate
  pub rows : List Row
  pub promise : Promise network start (limits_of ask.solve) nodes certificate rows word
  pub stored : Stored old.files (Writing ask.solve.certificate (spelling certificate)) new.files
  pub calls : new.calls ≡ says (report ask.solve.workers certificate rows nodes word) (Close true ∷ puts (spelling certificate) (Open ask.solve.certificate true ∷ middle.calls))

-- The text spells no certificate, and its first line that follows those before it in none was said.
abbrev pub Unspelled : RebaseRequest → Outside → Outside → Type 0
Unspelled ask old new = (P : Network) × (text : List ℕ) × (l : ℕ) × (middle : Outside) × Rebased ask old P text middle × TextFault text l × Says old middle.calls (refused_text kinds.Text l) new

abbrev pub RebaseSays : RebaseRequest → Outside → Outside → Status → Type 0
RebaseSays ask old new Done = WentOn ask old new words.Optimum
RebaseSays ask old new Nothing = WentOn ask old new words.Nothing
RebaseSays ask old new LimitSpent = WentOn ask old new words.Budget ⊎ (WentOn ask old new words.Time ⊎ WentOn ask old new words.Part)
RebaseSays ask old new Usage = ⊥
RebaseSays ask old new Refused = PairRefused ask.solve.format ask.solve.file ask.old old new
RebaseSays ask old new Fault = Unit {0}
RebaseSays ask old new NoMemory = SaysNoMemory old new ⊎ WentOn ask old new words.Memory
RebaseSays ask old new Disproved = Unspelled ask old new

-- What a status of `rebase` says; a file that is refused ends with that, a text that spells no certificate too, and one that does
-- with a report.
pub record RebaseStatus (ask : RebaseRequest) (old new : Outside) (status : Status) : Type 0 where
  pub says : RebaseSays ask old new status
  pub refused : (bytes : List ℕ) (refusal : FirstUnread) → Tells old ask.solve.file bytes → RefusesAs ask.solve.format bytes refusal → (status ≡ Refused) ⊎ IsHindered status
  pub went_on : (bytes text : List ℕ) (P : Network) (c : Certificate) → Tells old ask.solve.file bytes → Tells old ask.old text → ReadsAs ask.solve.format bytes P → Spells c text → IsReported status ⊎ IsHindered status
  pub unspelled : (bytes text : List ℕ) (P : Network) (l : ℕ) → Tells old ask.solve.file bytes → Tells old ask.old text → ReadsAs ask.solve.format bytes P → TextFault text l → (status ≡ Disproved) ⊎ IsHindered status
