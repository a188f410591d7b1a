use Rattle.cfn_record.proofs.Following.{step_follows, moves_follow}
use Rattle.cfn_record.proofs.Searching.{search_is_recorded}
use Rattle.cfn_record.proofs.laws.law_recorded_steps.Goals as goal

pub returns-clause-step : goal.returns-clause-step
returns-clause-step c = step_follows

pub returns-clause-moves : goal.returns-clause-moves
returns-clause-moves c = moves_follow

pub returns-clause-search : goal.returns-clause-search
returns-clause-search c = search_is_recorded
