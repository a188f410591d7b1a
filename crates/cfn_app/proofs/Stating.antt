-- What each status of a run says, from how the run ends.
use Rattle.std.proofs.Common.{◌≡◌, refl, subst}
use Rattle.std.specs.Prelude.{Option, Some, None}
use Rattle.cfn_desk.specs.Outside.{Outside, IsIdle}
use Rattle.cfn_cli.specs.Request.{Request, solve, check, cost, normal, trial, migrate, rebase, merge, k_best, check_best, recorded, replay}
use Rattle.cfn_app.specs.declared.status.Status.{Status}
use Rattle.cfn_app.specs.Endings.{Ends}
use Rattle.cfn_app.specs.Saying.{Counts}
use Rattle.cfn_app.specs.Runs.{Returns, Runs, RunsOf, StatusOf, Statuses, UsageSays}
use Rattle.cfn_app.specs.Runs as runs
use Rattle.cfn_app.proofs.Counting.{by, counted, ends_idle, unheard}
use Rattle.cfn_app.proofs.Stating.Checking.{check_unheard, check_status, check_counts, check_idle}
use Rattle.cfn_app.proofs.Stating.CheckingBest.{check_best_unheard, check_best_status, check_best_counts, check_best_idle}
use Rattle.cfn_app.proofs.Stating.Costing.{cost_unheard, cost_status, cost_counts, cost_idle}
use Rattle.cfn_app.proofs.Stating.Listing.{k_best_unheard, k_best_status, k_best_counts, k_best_idle}
use Rattle.cfn_app.proofs.Stating.Merging.{merge_unheard, merge_status, merge_counts, merge_idle}
use Rattle.cfn_app.proofs.Stating.Migrating.{migrate_unheard, migrate_status, migrate_counts, migrate_idle}
use Rattle.cfn_app.proofs.Stating.Normalizing.{normal_unheard, normal_status, normal_counts, normal_idle}
use Rattle.cfn_app.proofs.Stating.Rebasing.{rebase_unheard, rebase_status, rebase_counts, rebase_idle}
use Rattle.cfn_app.proofs.Returning.{comes_back}
use Rattle.cfn_app.proofs.Stating.Recording.{recorded_unheard, recorded_status, recorded_counts, recorded_idle}
use Rattle.cfn_app.proofs.Stating.Replaying.{replay_unheard, replay_status, replay_counts, replay_idle}
use Rattle.cfn_app.proofs.Stating.Solving.{solve_unheard, solve_status, solve_counts, solve_idle}
use Rattle.cfn_app.proofs.Stating.Trying.{trial_unheard, trial_status, trial_counts, trial_idle}
mod Checking
mod CheckingBest
mod Costing
mod Listing
mod Merging
mod Migrating
mod Normalizing
mod Rebasing
mod Recording
mod Replaying
mod Solving
mod Trying

-- ---- the commands

module _ (old new : Outside) (status : Status) where
  -- what the status says, where memory was refused before the words were understood
  unheard_status : (ask : Request) → new.files ≡ old.files → Ends (unheard old) new.calls status → StatusOf ask old new status
  unheard_status (solve ask) same ends = solve_unheard ask old new status same ends
  unheard_status (check ask) same ends = check_unheard ask old new status same ends
  unheard_status (cost ask) same ends = cost_unheard ask old new status same ends
  unheard_status (normal ask) same ends = normal_unheard ask old new status same ends
  unheard_status (trial ask) same ends = trial_unheard ask old new status same ends
  unheard_status (migrate ask) same ends = migrate_unheard ask old new status same ends
  unheard_status (rebase ask) same ends = rebase_unheard ask old new status same ends
  unheard_status (merge ask) same ends = merge_unheard ask old new status same ends
  unheard_status (k_best ask) same ends = k_best_unheard ask old new status same ends
  unheard_status (check_best ask) same ends = check_best_unheard ask old new status same ends
  unheard_status (recorded ask) same ends = recorded_unheard ask old new status same ends
  unheard_status (replay ask) same ends = replay_unheard ask old new status same ends

  status_of : (ask : Request) → RunsOf ask old new status → StatusOf ask old new status
  status_of (solve ask) run = solve_status ask old new status run
  status_of (check ask) run = check_status ask old new status run.0 run.1
  status_of (cost ask) run = cost_status ask old new status run.0 run.1
  status_of (normal ask) run = normal_status ask old new status run.0 run.1
  status_of (trial ask) run = trial_status ask old new status run.0 run.1
  status_of (migrate ask) run = migrate_status ask old new status run
  status_of (rebase ask) run = rebase_status ask old new status run
  status_of (merge ask) run = merge_status ask old new status run
  status_of (k_best ask) run = k_best_status ask old new status run
  status_of (check_best ask) run = check_best_status ask old new status run.0 run.1
  status_of (recorded ask) run = recorded_status ask old new status run
  status_of (replay ask) run = replay_status ask old new status run

  counts_of : (ask : Request) → RunsOf ask old new status → Counts old.calls new.calls status
  counts_of (solve ask) run = solve_counts ask old new status run
  counts_of (check ask) run = check_counts ask old new status run.0 run.1
  counts_of (cost ask) run = cost_counts ask old new status run.0 run.1
  counts_of (normal ask) run = normal_counts ask old new status run.0 run.1
  counts_of (trial ask) run = trial_counts ask old new status run.0 run.1
  counts_of (migrate ask) run = migrate_counts ask old new status run
  counts_of (rebase ask) run = rebase_counts ask old new status run
  counts_of (merge ask) run = merge_counts ask old new status run
  counts_of (k_best ask) run = k_best_counts ask old new status run
  counts_of (check_best ask) run = check_best_counts ask old new status run.0 run.1
  counts_of (recorded ask) run = recorded_counts ask old new status run
  counts_of (replay ask) run = replay_counts ask old new status run

  idle_of : (ask : Request) → RunsOf ask old new status → IsIdle old.calls → IsIdle new.calls
  idle_of (solve ask) run before = solve_idle ask old new status run before
  idle_of (check ask) run before = check_idle ask old new status run.0 run.1 before
  idle_of (cost ask) run before = cost_idle ask old new status run.0 run.1 before
  idle_of (normal ask) run before = normal_idle ask old new status run.0 run.1 before
  idle_of (trial ask) run before = trial_idle ask old new status run.0 run.1 before
  idle_of (migrate ask) run before = migrate_idle ask old new status run before
  idle_of (rebase ask) run before = rebase_idle ask old new status run before
  idle_of (merge ask) run before = merge_idle ask old new status run before
  idle_of (k_best ask) run before = k_best_idle ask old new status run before
  idle_of (check_best ask) run before = check_best_idle ask old new status run.0 run.1 before
  idle_of (recorded ask) run before = recorded_idle ask old new status run before
  idle_of (replay ask) run before = replay_idle ask old new status run before

-- ---- all runs

none_some : (request : Option Request) (ask : Request) → request ≡ None → request ≡ Some ask → ⊥
none_some request ask none some = cc

same_request : (request : Option Request) (ask other : Request) → request ≡ Some ask → request ≡ Some other → ask ≡ other
same_request request ask other e o = cc

module _ (request : Option Request) (old new : Outside) (status : Status) where
  no_command : request ≡ None → Runs request old new status → UsageSays old new status
  no_command none (runs.no_memory same ends) = by (UsageSays old new) _ new.calls status ends (λ calls. (_, (calls, same))) tt
  no_command none (runs.usage is same ends) = by (UsageSays old new) _ new.calls status ends (λ calls. (calls, same)) tt
  no_command none (runs.does ask is run) = absurd (none_some request ask none is)

  command : (ask : Request) → request ≡ Some ask → Runs request old new status → StatusOf ask old new status
  command ask is (runs.no_memory same ends) = unheard_status old new status ask same ends
  command ask is (runs.usage none same ends) = absurd (none_some request ask none is)
  command ask is (runs.does other also run) = subst (λ a. StatusOf a old new status) (same_request request other ask also is) (status_of old new status other run)

  counts : Runs request old new status → Counts old.calls new.calls status
  counts (runs.no_memory same ends) = counted old.calls _ new.calls status ends refl
  counts (runs.usage none same ends) = counted old.calls _ new.calls status ends refl
  counts (runs.does ask is run) = counts_of old new status ask run

  idle : Runs request old new status → IsIdle old.calls → IsIdle new.calls
  idle (runs.no_memory same ends) before = ends_idle _ new.calls status ends before
  idle (runs.usage none same ends) before = ends_idle _ new.calls status ends before
  idle (runs.does ask is run) before = idle_of old new status ask run before

  pub statuses : Runs request old new status → Statuses request old new status
  statuses run = record {
    no_command = (λ none. no_command none run);
    command = (λ ask is. command ask is run);
    counts = counts run;
    idle = idle run;
  }

  -- a recorded run's certificate comes again from its record
  pub returns : Runs request old new status → Returns request old new status
  returns run ask is = comes_back ask old new status (command (replay ask) is run)
