use Rattle.cfn_mending.proofs.Joined.{join_valid, join_bound}
use Rattle.cfn_mending.proofs.laws.law_joined.Goals as goal

pub returns-clause-valid : goal.returns-clause-valid
returns-clause-valid c = join_valid

pub returns-clause-bound : goal.returns-clause-bound
returns-clause-bound c = join_bound
