use Rattle.cfn_ranking.proofs.WholeTree.{plain_law}
use Rattle.cfn_ranking.proofs.laws.law_plain_where_nodes_are.Goals as goal

pub returns : goal.returns
returns c = plain_law
