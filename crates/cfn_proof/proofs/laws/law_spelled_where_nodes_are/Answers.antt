use Rattle.cfn_proof.proofs.WholeTree.{spelled_law, lines_law}
use Rattle.cfn_proof.proofs.laws.law_spelled_where_nodes_are.Goals as goal

pub returns-clause-spelled : goal.returns-clause-spelled
returns-clause-spelled c = spelled_law

pub returns-clause-lines : goal.returns-clause-lines
returns-clause-lines c = lines_law
