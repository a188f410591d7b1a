use Rattle.cfn_ranking.proofs.WholeTree.{valid_law}
use Rattle.cfn_ranking.proofs.laws.law_valid_where_nodes_are.Goals as goal

pub returns : goal.returns
returns c = valid_law
