use Rattle.cfn_record.proofs.Repeating.{follows_numbered, one_run, one_end}
use Rattle.cfn_record.proofs.laws.law_one_run.Goals as goal

pub returns-clause-numbered : goal.returns-clause-numbered
returns-clause-numbered c = follows_numbered

pub returns-clause-run : goal.returns-clause-run
returns-clause-run c = one_run

pub returns-clause-end : goal.returns-clause-end
returns-clause-end c = one_end
