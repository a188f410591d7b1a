use Rattle.cfn_fault.proofs.Faults.{some_begins, all_begin, whole_spells}
use Rattle.cfn_fault.proofs.laws.law_lines_of_certificates.Goals as goal

pub returns-clause-some : goal.returns-clause-some
returns-clause-some c = some_begins

pub returns-clause-each : goal.returns-clause-each
returns-clause-each c = all_begin

pub returns-clause-whole : goal.returns-clause-whole
returns-clause-whole c = whole_spells
