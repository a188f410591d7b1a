use Rattle.cfn_merge.proofs.Parts.{second_alone}
use Rattle.cfn_merge.proofs.pair.Pair.second_part.Goals as goal

pub returns : goal.returns
returns c =
    second_alone c.args.self.now.first.tree.now c.args.self.now.second.tree.now c.args.id c.node-node.result.now c.second_ending.result c.law_linked.ensures.linked c.requires c.node-node.ensures
    c.second_ending.ensures.is c.second_ending.ensures.there
