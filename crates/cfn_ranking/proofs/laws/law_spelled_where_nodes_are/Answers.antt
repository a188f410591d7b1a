use Rattle.cfn_ranking.proofs.WholeTree.{spelled_law, numbers_law}
use Rattle.cfn_ranking.proofs.laws.law_spelled_where_nodes_are.Goals as goal

pub returns-clause-spelled : goal.returns-clause-spelled
returns-clause-spelled c = spelled_law

pub returns-clause-numbers : goal.returns-clause-numbers
returns-clause-numbers c = numbers_law
