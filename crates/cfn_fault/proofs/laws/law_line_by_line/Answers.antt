use Rattle.cfn_fault.proofs.Faults.{one_more, text_faults, line_faults, whole_texts}
use Rattle.cfn_fault.proofs.laws.law_line_by_line.Goals as goal

pub returns-clause-one_more : goal.returns-clause-one_more
returns-clause-one_more c = one_more

pub returns-clause-by_grammar : goal.returns-clause-by_grammar
returns-clause-by_grammar c = text_faults

pub returns-clause-by_table : goal.returns-clause-by_table
returns-clause-by_table c = line_faults

pub returns-clause-whole : goal.returns-clause-whole
returns-clause-whole c = whole_texts
