-- What the words of a command line ask for.
use Rattle.std.specs.Prelude.{◌≡◌, Bool, true, false, List, [], ◌∷◌, Option, Some, None}
use Rattle.std.specs.Prelude.{option_map, option_and_then, if◌then◌else◌, codes}
use Rattle.std.specs.Str.{bytes_eq}
use Rattle.clap.specs.declared.builder.Command.{Command as Line}
use Rattle.clap.specs.Words.{App, Kinds, Row, Text, app_of, fault_of, first_of, is_simple, is_simple_and_free, new_app, subcommand_of, with_subcommand}
use Rattle.clap.specs.Simple.{on_top}
use Rattle.cfn_cli.specs.declared.commands.Command.{Command}
use Rattle.cfn_cli.specs.declared.commands.CommandName.{CommandName}
use Rattle.cfn_cli.specs.declared.commands.Command.TheVariants.{Solve, Recorded, Check, Cost, Normal, Trial, Migrate, Rebase, Merge, Replay, KBest, CheckBest}
use Rattle.cfn_cli.specs.Request.Solving.{SolveRequest, IsSolveWithin, solve_app, solve_of, spoken_solve}
use Rattle.cfn_cli.specs.Request.Recording.{RecordedRequest, recorded_apart, spoken_recorded}
use Rattle.cfn_cli.specs.Request.Checking.{CheckRequest, check_app, check_of, spoken_check}
use Rattle.cfn_cli.specs.Request.Costing.{CostRequest, IsCostWithin, cost_app, cost_of, spoken_cost}
use Rattle.cfn_cli.specs.Request.Normalizing.{NormalRequest, normal_app, normal_of, spoken_normal}
use Rattle.cfn_cli.specs.Request.Trying.{TrialRequest, IsTrialWithin, trial_app, trial_of, spoken_trial}
use Rattle.cfn_cli.specs.Request.Migrating.{MigrateRequest, migrate_app, migrate_of, spoken_migrate}
use Rattle.cfn_cli.specs.Request.Rebasing.{RebaseRequest, IsRebaseWithin, rebase_app, rebase_of, spoken_rebase}
use Rattle.cfn_cli.specs.Request.Merging.{MergeRequest, IsMergeWithin, merge_app, merge_of, spoken_merge}
use Rattle.cfn_cli.specs.Request.Replaying.{ReplayRequest, replay_app, replay_of, spoken_replay}
use Rattle.cfn_cli.specs.Request.Listing.{KBestRequest, IsKBestWithin, k_best_app, k_best_of, spoken_k_best}
use Rattle.cfn_cli.specs.Request.CheckingBest.{CheckBestRequest, check_best_app, check_best_of, spoken_check_best}
pub mod Checking
pub mod CheckingBest
pub mod Costing
pub mod Listing
pub mod Merging
pub mod Migrating
pub mod Normalizing
pub mod Rebasing
pub mod Recording
pub mod Replaying
pub mod Solving
pub mod Trying

-- ---- the commands

pub data Request : Type 0 where
  solve : SolveRequest → Request
  recorded : RecordedRequest → Request
  check : CheckRequest → Request
  cost : CostRequest → Request
  normal : NormalRequest → Request
  trial : TrialRequest → Request
  migrate : MigrateRequest → Request
  rebase : RebaseRequest → Request
  merge : MergeRequest → Request
  replay : ReplayRequest → Request
  k_best : KBestRequest → Request
  check_best : CheckBestRequest → Request

-- The request that a command holds.
abbrev pub request : Command → Request
request (Solve a) = solve (spoken_solve a)
request (Recorded a) = recorded (spoken_recorded a)
request (Check a) = check (spoken_check a)
request (Cost a) = cost (spoken_cost a)
request (Normal a) = normal (spoken_normal a)
request (Trial a) = trial (spoken_trial a)
request (Migrate a) = migrate (spoken_migrate a)
request (Rebase a) = rebase (spoken_rebase a)
request (Merge a) = merge (spoken_merge a)
request (Replay a) = replay (spoken_replay a)
request (KBest a) = k_best (spoken_k_best a)
request (CheckBest a) = check_best (spoken_check_best a)

-- The numbers of a command lie within their limits.
abbrev pub IsWithin : Command → Type 0
IsWithin (Solve a) = IsSolveWithin a
IsWithin (Recorded a) = IsSolveWithin a.solve
IsWithin (Check a) = Unit {0}
IsWithin (Cost a) = IsCostWithin a
IsWithin (Normal a) = Unit {0}
IsWithin (Trial a) = IsTrialWithin a
IsWithin (Migrate a) = Unit {0}
IsWithin (Rebase a) = IsRebaseWithin a
IsWithin (Merge a) = IsMergeWithin a
IsWithin (Replay a) = Unit {0}
IsWithin (KBest a) = IsKBestWithin a
IsWithin (CheckBest a) = Unit {0}

-- The program, which wants one of its commands.
unfoldable pub command_line : App
command_line = with_subcommand (with_subcommand (with_subcommand (with_subcommand (with_subcommand (with_subcommand (with_subcommand (with_subcommand (with_subcommand (with_subcommand (with_subcommand
    (on_top (λ s. record s { subcommand_required = true }) (new_app (codes "wcspsolve")))
    solve_app.top) check_app.top) cost_app.top) normal_app.top) trial_app.top) migrate_app.top) rebase_app.top) merge_app.top) replay_app.top) k_best_app.top) check_best_app.top

-- What a parse reads of a command is the program's command line, of the kind of which clap tells what the words give.
pub record IsLine (line : Line) : Type 0 where
  pub app : app_of line ≡ command_line
  pub simple : is_simple (app_of line) ≡ true
  pub free : is_simple_and_free (app_of line) ≡ true

-- The request of `solve`: with a record where the words give one's name.
abbrev pub solve_under : Option Text → SolveRequest → Option Request
solve_under None ask = Some (solve ask)
solve_under (Some name) ask = option_map recorded (recorded_apart (record { recording = name; solve = ask }))

abbrev pub solving_of : List Row → Option Request
solving_of rows = option_and_then (solve_under (first_of (codes "record") rows)) (solve_of rows)

-- The command of a name.
abbrev pub name_of : Text → Option CommandName
name_of text =
    if bytes_eq text (codes "solve") then Some CommandName.Solve
    else (if bytes_eq text (codes "check") then Some CommandName.Check
    else (if bytes_eq text (codes "cost") then Some CommandName.Cost
    else (if bytes_eq text (codes "normal") then Some CommandName.Normal
    else (if bytes_eq text (codes "trial") then Some CommandName.Trial
    else (if bytes_eq text (codes "migrate") then Some CommandName.Migrate
    else (if bytes_eq text (codes "rebase") then Some CommandName.Rebase
    else (if bytes_eq text (codes "merge") then Some CommandName.Merge
    else (if bytes_eq text (codes "replay") then Some CommandName.Replay
    else (if bytes_eq text (codes "kbest") then Some CommandName.KBest
    else (if bytes_eq text (codes "checkbest") then Some CommandName.CheckBest else None))))))))))

-- The request of a command, with these rows.
abbrev pub request_as : CommandName → List Row → Option Request
request_as CommandName.Solve rows = solving_of rows
request_as CommandName.Check rows = option_map check (check_of rows)
request_as CommandName.Cost rows = option_map cost (cost_of rows)
request_as CommandName.Normal rows = option_map normal (normal_of rows)
request_as CommandName.Trial rows = option_map trial (trial_of rows)
request_as CommandName.Migrate rows = option_map migrate (migrate_of rows)
request_as CommandName.Rebase rows = option_map rebase (rebase_of rows)
request_as CommandName.Merge rows = option_map merge (merge_of rows)
request_as CommandName.Replay rows = option_map replay (replay_of rows)
request_as CommandName.KBest rows = option_map k_best (k_best_of rows)
request_as CommandName.CheckBest rows = option_map check_best (check_best_of rows)

-- The request of the command of a name, with these rows.
abbrev pub request_named : Text → List Row → Option Request
request_named text rows = option_and_then (λ name. request_as name rows) (name_of text)

abbrev pub request_from : Option (Text × List Row) → Option Request
request_from = option_and_then (λ met. request_named met.0 met.1)

-- ---- the words

abbrev pub is_faultless : Kinds → Bool
is_faultless [] = true
is_faultless (kind ∷ kinds) = false

-- Clap's function of the words, at this command line, lists no fault.
unfoldable pub is_taken : List Text → Bool
is_taken words = is_faultless (fault_of command_line words)

-- The name and the rows of the command that the words name, by clap's function of the words.
unfoldable pub entered_by : List Text → Option (Text × List Row)
entered_by = subcommand_of command_line

-- What the words ask for, if they spell a command.
abbrev pub request_of : List Text → Option Request
request_of words = if is_taken words then request_from (entered_by words) else None
