use Rattle.cfn_fault.proofs.Deciding.{good_or_fault}
use Rattle.cfn_fault.proofs.Faults.{one_fault, no_fault_where_good}
use Rattle.cfn_fault.proofs.laws.law_good_or_fault.Goals as goal

pub returns-clause-some : goal.returns-clause-some
returns-clause-some c = good_or_fault

pub returns-clause-not_both : goal.returns-clause-not_both
returns-clause-not_both c = no_fault_where_good

pub returns-clause-one : goal.returns-clause-one
returns-clause-one c = one_fault
