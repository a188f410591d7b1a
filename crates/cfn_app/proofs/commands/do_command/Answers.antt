use Rattle.std.proofs.Common.{◌≡◌, sym, subst}
use Rattle.cfn_desk.specs.Outside.{Outside}
use Rattle.cfn_cli.specs.Request.{request}
use Rattle.cfn_cli.specs.declared.commands.Command.{Command}
use Rattle.cfn_app.specs.declared.status.Status.{Status}
use Rattle.cfn_app.specs.Runs.{RunsOf}
use Rattle.cfn_app.proofs.commands.do_command.Goals as goal

-- the run of a command that is this one
run_of : (command this : Command) (old new : Outside) (status : Status) → command ≡ this → RunsOf (request this) old new status → RunsOf (request command) old new status
run_of command this old new status is run = subst (λ k. RunsOf (request k) old new status) (sym is) run

pub returns-in-Solve : goal.returns-in-Solve
returns-in-Solve g c = run_of _ _ _ _ _ c.in-Solve.is c.solve_file.ensures

pub returns-in-Check : goal.returns-in-Check
returns-in-Check g c = run_of _ _ _ _ _ c.in-Check.is (c.check_file.ensures.files, c.check_file.ensures.ends)

pub returns-in-Cost : goal.returns-in-Cost
returns-in-Cost g c = run_of _ _ _ _ _ c.in-Cost.is (c.cost_file.ensures.files, c.cost_file.ensures.ends)

pub returns-in-Normal : goal.returns-in-Normal
returns-in-Normal g c = run_of _ _ _ _ _ c.in-Normal.is (c.normalize_file.ensures.files, c.normalize_file.ensures.ends)

pub returns-in-Trial : goal.returns-in-Trial
returns-in-Trial g c = run_of _ _ _ _ _ c.in-Trial.is (c.try_drawn.ensures.files, c.try_drawn.ensures.ends)

pub returns-in-Migrate : goal.returns-in-Migrate
returns-in-Migrate g c = run_of _ _ _ _ _ c.in-Migrate.is c.migrate_file.ensures

pub returns-in-Rebase : goal.returns-in-Rebase
returns-in-Rebase g c = run_of _ _ _ _ _ c.in-Rebase.is c.rebase_file.ensures

pub returns-in-Merge : goal.returns-in-Merge
returns-in-Merge g c = run_of _ _ _ _ _ c.in-Merge.is c.merge_files.ensures

pub returns-in-KBest : goal.returns-in-KBest
returns-in-KBest g c = run_of _ _ _ _ _ c.in-KBest.is c.list_file.ensures

pub returns-in-CheckBest : goal.returns-in-CheckBest
returns-in-CheckBest g c = run_of _ _ _ _ _ c.in-CheckBest.is (c.check_best_file.ensures.files, c.check_best_file.ensures.ends)

pub returns-in-Recorded : goal.returns-in-Recorded
returns-in-Recorded g c = run_of _ _ _ _ _ c.in-Recorded.is c.record_file.ensures

pub returns-in-Replay : goal.returns-in-Replay
returns-in-Replay g c = run_of _ _ _ _ _ c.in-Replay.is c.replay_file.ensures
