use Rattle.cfn_fault.proofs.Spelling.{one_certificate}
use Rattle.cfn_fault.proofs.TextFaults.{spells_or_text_fault, no_text_fault_where_spelled, one_text_fault, fault_of_text}
use Rattle.cfn_fault.proofs.laws.law_texts.Goals as goal

pub returns-clause-one : goal.returns-clause-one
returns-clause-one c = one_certificate

pub returns-clause-some : goal.returns-clause-some
returns-clause-some c = spells_or_text_fault

pub returns-clause-not_both : goal.returns-clause-not_both
returns-clause-not_both c = no_text_fault_where_spelled

pub returns-clause-one_line : goal.returns-clause-one_line
returns-clause-one_line c = one_text_fault

pub returns-clause-kind : goal.returns-clause-kind
returns-clause-kind c = fault_of_text
