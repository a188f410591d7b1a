use Rattle.cfn_due.proofs.Staying.{arc_goes_on, directed_goes_on, existing_goes_on, holding_goes_on, holding_goes_along}
use Rattle.cfn_due.proofs.laws.law_going.Goals as goal

pub returns-clause-arc : goal.returns-clause-arc
returns-clause-arc c = arc_goes_on

pub returns-clause-directed : goal.returns-clause-directed
returns-clause-directed c = directed_goes_on

pub returns-clause-existing : goal.returns-clause-existing
returns-clause-existing c = existing_goes_on

pub returns-clause-holding : goal.returns-clause-holding
returns-clause-holding c = holding_goes_on

pub returns-clause-along : goal.returns-clause-along
returns-clause-along c = holding_goes_along
