use Rattle.cfn_merge.proofs.Parts.{first_alone}
use Rattle.cfn_merge.proofs.pair.Pair.first_part.Goals as goal

pub returns : goal.returns
returns c =
    first_alone c.args.self.now.first.tree.now c.args.self.now.second.tree.now c.args.id c.node-node.result.now c.first_ending.result c.law_linked.ensures.linked c.requires c.node-node.ensures
    c.first_ending.ensures.is c.first_ending.ensures.there
