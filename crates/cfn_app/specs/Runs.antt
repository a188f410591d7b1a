-- How a run may end, in full: its calls in their order with their bytes and answers, what it says, the files, its status; and
-- what each status says.
use Rattle.std.specs.Prelude.{◌≡◌, Option, Some, None}
use Rattle.cfn_model.specs.Text.{memory_fault_text}
use Rattle.cfn_report.specs.Texts.{usage_text}
use Rattle.cfn_desk.specs.Outside.{Outside, IsIdle}
use Rattle.cfn_cli.specs.Request.{Request, solve, check, cost, normal, trial, migrate, rebase, merge, k_best, check_best, recorded, replay}
use Rattle.cfn_cli.specs.Request.Replaying.{ReplayRequest}
use Rattle.cfn_app.specs.declared.status.Status.{Status}
use Rattle.cfn_app.specs.declared.status.Status.TheVariants.{Done, Nothing, LimitSpent, Usage, Refused, Fault, NoMemory, Disproved}
use Rattle.cfn_app.specs.Endings.{Ends}
use Rattle.cfn_app.specs.Saying.{Counts, Says, SaysNoMemory}
use Rattle.cfn_app.specs.Runs.Solving.{Solves, SolveStatus}
use Rattle.cfn_app.specs.Runs.Checking.{Checks, CheckStatus}
use Rattle.cfn_app.specs.Runs.CheckingBest.{ChecksBest, CheckBestStatus}
use Rattle.cfn_app.specs.Runs.Costing.{Costs, CostStatus}
use Rattle.cfn_app.specs.Runs.Listing.{ListsBest, KBestStatus}
use Rattle.cfn_app.specs.Runs.Merging.{Merges, MergeStatus}
use Rattle.cfn_app.specs.Runs.Migrating.{Migrates, MigrateStatus}
use Rattle.cfn_app.specs.Runs.Normalizing.{Normalizes, NormalStatus}
use Rattle.cfn_app.specs.Runs.Rebasing.{Rebases, RebaseStatus}
use Rattle.cfn_app.specs.Runs.Recording.{Records, RecordedStatus}
use Rattle.cfn_app.specs.Runs.Replaying.{Replays, ReplayStatus, ComesBack}
use Rattle.cfn_app.specs.Runs.Trying.{Tries, TrialStatus}
pub mod Checking
pub mod CheckingBest
pub mod Costing
pub mod Listing
pub mod Merging
pub mod Migrating
pub mod Normalizing
pub mod Rebasing
pub mod Recording
pub mod Replaying
pub mod Solving
pub mod Trying

-- ---- the commands

-- How a run may end that is asked this. Only `solve`, `migrate`, `rebase`, `merge`, `kbest` and `replay`
-- write a file; `solve` writes two where it is recorded.
abbrev pub RunsOf : Request → Outside → Outside → Status → Type 0
RunsOf (solve ask) old new status = Solves ask old new status
RunsOf (check ask) old new status = (new.files ≡ old.files) × Checks ask old new.calls status
RunsOf (cost ask) old new status = (new.files ≡ old.files) × Costs ask old new.calls status
RunsOf (normal ask) old new status = (new.files ≡ old.files) × Normalizes ask old new.calls status
RunsOf (trial ask) old new status = (new.files ≡ old.files) × Tries ask old.calls new.calls status
RunsOf (migrate ask) old new status = Migrates ask old new status
RunsOf (rebase ask) old new status = Rebases ask old new status
RunsOf (merge ask) old new status = Merges ask old new status
RunsOf (k_best ask) old new status = ListsBest ask old new status
RunsOf (check_best ask) old new status = (new.files ≡ old.files) × ChecksBest ask old new.calls status
RunsOf (recorded ask) old new status = Records ask old new status
RunsOf (replay ask) old new status = Replays ask old new status

-- What the status of a run says that is asked this.
abbrev pub StatusOf : Request → Outside → Outside → Status → Type 0
StatusOf (solve ask) old new status = SolveStatus ask old new status
StatusOf (check ask) old new status = CheckStatus ask old new status
StatusOf (cost ask) old new status = CostStatus ask old new status
StatusOf (normal ask) old new status = NormalStatus ask old new status
StatusOf (trial ask) old new status = TrialStatus ask old new status
StatusOf (migrate ask) old new status = MigrateStatus ask old new status
StatusOf (rebase ask) old new status = RebaseStatus ask old new status
StatusOf (merge ask) old new status = MergeStatus ask old new status
StatusOf (k_best ask) old new status = KBestStatus ask old new status
StatusOf (check_best ask) old new status = CheckBestStatus ask old new status
StatusOf (recorded ask) old new status = RecordedStatus ask old new status
StatusOf (replay ask) old new status = ReplayStatus ask old new status

-- ---- all runs

-- How a run may end, by what its words ask for.
pub data Runs (request : Option Request) (old new : Outside) (status : Status) : Type 0 where
  -- memory was refused before the words were understood
  no_memory : new.files ≡ old.files → Ends (record { calls = old.calls; text = memory_fault_text; status = NoMemory }) new.calls status → Runs request old new status
  -- the words are no command
  usage : request ≡ None → new.files ≡ old.files → Ends (record { calls = old.calls; text = usage_text; status = Usage }) new.calls status → Runs request old new status
  -- the words are a command
  does : (ask : Request) → request ≡ Some ask → RunsOf ask old new status → Runs request old new status

-- Words that are no command end with the usage.
abbrev pub UsageSays : Outside → Outside → Status → Type 0
UsageSays old new Done = ⊥
UsageSays old new Nothing = ⊥
UsageSays old new LimitSpent = ⊥
UsageSays old new Usage = Says old old.calls usage_text new
UsageSays old new Refused = ⊥
UsageSays old new Fault = Unit {0}
UsageSays old new NoMemory = SaysNoMemory old new
UsageSays old new Disproved = ⊥

-- What a status says, by what the words ask for; with which status the count of failed calls rose; and that no file is
-- being written at the end, if none was before.
pub record Statuses (request : Option Request) (old new : Outside) (status : Status) : Type 0 where
  pub no_command : request ≡ None → UsageSays old new status
  pub command : (ask : Request) → request ≡ Some ask → StatusOf ask old new status
  pub counts : Counts old.calls new.calls status
  pub idle : IsIdle old.calls → IsIdle new.calls

-- Words that ask for a replay of what a run recorded, on the same file, have that run's certificate written again, or the run is
-- hindered.
abbrev pub Returns : Option Request → Outside → Outside → Status → Type 0
Returns request old new status = (ask : ReplayRequest) → request ≡ Some (replay ask) → ComesBack ask old new status
