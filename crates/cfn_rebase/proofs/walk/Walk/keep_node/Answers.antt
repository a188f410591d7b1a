use Rattle.std.proofs.Common.{subst}
use Rattle.std.specs.Prelude.{OnOk}
use Rattle.cfn_model.specs.Network.{Network}
use Rattle.cfn_proof.specs.declared.tree.Node.{Node}
use Rattle.cfn_rebase.specs.Fronts.{IsEnding}
use Rattle.cfn_rebase.specs.Walking.{Walks}
use Rattle.cfn_rebase.proofs.Ended.{whole_block}
use Rattle.cfn_rebase.proofs.Walkings.{cut_moved, node_ends}
use Rattle.cfn_rebase.proofs.walk.Walk.keep_node.Goals as goal

pub node-node-requires : goal.node-node-requires
node-node-requires c = c.requires.at.there

pub front-requires : goal.front-requires
front-requires c = c.requires.none

pub kept_block-requires : goal.kept_block-requires
kept_block-requires c = λ is_all. whole_block c.args.self.now.ground.network c.args.self.now.ground.base c.args.self.now.threshold c.node-node.result.now.block c.front.new.self.block c.in_ok-whole.whole is_all c.in_ok-whole.ensures.front

pub ending-end-requires : goal.ending-end-requires
ending-end-requires c = cut_moved c.args.self.now.ground c.front.new.self c.args.self.now.threshold _ c.in_ok-whole.whole c.in_ok-whole.ensures.network c.in_ok-whole.ensures.base c.in_ok-whole.ensures.front

pub end-requires : goal.end-requires
end-requires c = record {
  at = node_ends c.args.self.now.threshold c.args.old.now c.args.self.now c.front.new.self c.args.id.number c.args.leaf.number c.requires c.in_ok-whole.ensures.network c.in_ok-whole.ensures.base;
  block_is = c.in_ok-block.ensures;
  ending = subst (λ (n : Node). IsEnding c.front.new.self.network c.front.new.self.base c.args.self.now.threshold n c.front.new.self.block c.ending-end.result) c.node-node.ensures c.ending-end.ensures;
}

pub returns-clause-walks : goal.returns-clause-walks
returns-clause-walks c = subst (λ (Q : Network). OnOk c.end.result (Walks Q c.args.self.now.threshold c.args.old.now c.end.new.self)) c.in_ok-whole.ensures.network c.end.ensures.walks
