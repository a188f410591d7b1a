use Rattle.std.proofs.Common.{sym, ◌∙◌}
use Rattle.cfn_merge.proofs.Parts.{both_joined, first_stands, second_stands}
use Rattle.cfn_merge.proofs.pair.Pair.joined_part.Goals as goal

pub returns-in-Some : goal.returns-in-Some
returns-in-Some c =
    both_joined c.args.self.now.first.tree.now c.args.self.now.second.tree.now c.args.first c.args.second c.node-node.result.now c.node.result.now c.law_linked.ensures.linked c.law_linked-2.ensures.linked
    c.requires.first c.requires.second c.node-node.ensures c.node.ensures c.in-Some.ending c.in-Some.ensures

pub returns-then-gives_way : goal.returns-then-gives_way
returns-then-gives_way c =
    second_stands c.args.self.now.first.tree.now c.args.self.now.second.tree.now c.args.first c.args.second c.node-node.result.now c.node.result.now c.law_linked.ensures.linked c.law_linked-2.ensures.linked
    c.requires.first c.requires.second c.node-node.ensures c.node.ensures _ _ c.in-None.ensures (sym (c.gives_way.ensures _ _ c.rank.ensures c.rank-in-None.ensures) ∙ c.if-gives_way.true) c.second_part.ensures

pub returns-else-gives_way : goal.returns-else-gives_way
returns-else-gives_way c =
    first_stands c.args.self.now.first.tree.now c.args.self.now.second.tree.now c.args.first c.args.second c.node-node.result.now c.node.result.now c.law_linked.ensures.linked c.law_linked-2.ensures.linked
    c.requires.first c.requires.second c.node-node.ensures c.node.ensures _ _ c.in-None.ensures (sym (c.gives_way.ensures _ _ c.rank.ensures c.rank-in-None.ensures) ∙ c.if-gives_way.false) c.first_part.ensures
