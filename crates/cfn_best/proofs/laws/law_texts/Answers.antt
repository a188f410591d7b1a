use Rattle.cfn_best.proofs.Passing.{faults_are_one}
use Rattle.cfn_best.proofs.Reading.{no_fault_where_good, one_list}
use Rattle.cfn_best.proofs.laws.law_texts.Goals as goal

pub returns-clause-one : goal.returns-clause-one
returns-clause-one c = one_list

pub returns-clause-not_both : goal.returns-clause-not_both
returns-clause-not_both c = no_fault_where_good

pub returns-clause-one_fault : goal.returns-clause-one_fault
returns-clause-one_fault c = faults_are_one
