use Rattle.cfn_core.proofs.Thresholds.{ends_at_most, meets_all}
use Rattle.cfn_core.proofs.laws.law_thresholds.Goals as goal

pub returns-clause-ends : goal.returns-clause-ends
returns-clause-ends c = ends_at_most

pub returns-clause-meets : goal.returns-clause-meets
returns-clause-meets c = meets_all
