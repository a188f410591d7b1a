use Rattle.cfn_record.proofs.Judging.{good_or_fault_record}
use Rattle.cfn_record.proofs.Parting.{one_record}
use Rattle.cfn_record.proofs.Passing.{faults_are_one}
use Rattle.cfn_record.proofs.Reading.{no_fault_where_good}
use Rattle.cfn_record.proofs.laws.law_texts.Goals as goal

pub returns-clause-one : goal.returns-clause-one
returns-clause-one c = one_record

pub returns-clause-not_both : goal.returns-clause-not_both
returns-clause-not_both c = no_fault_where_good

pub returns-clause-one_fault : goal.returns-clause-one_fault
returns-clause-one_fault c = faults_are_one

pub returns-clause-some : goal.returns-clause-some
returns-clause-some c = good_or_fault_record
