use Rattle.cfn_ranking.proofs.WholeTree.{none_open_law, some_open_law}
use Rattle.cfn_ranking.proofs.laws.law_open_where_a_node_is.Goals as goal

pub returns-clause-none : goal.returns-clause-none
returns-clause-none c = none_open_law

pub returns-clause-some : goal.returns-clause-some
returns-clause-some c = some_open_law
