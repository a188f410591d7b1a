use Rattle.std.proofs.Common.{◌≤◌, length, arith}
use Rattle.cfn_merge.proofs.Ranked.{below_before, ranked_before}
use Rattle.cfn_merge.proofs.rank.ranks.Goals as goal

pub node_rank-requires : goal.node_rank-requires
node_rank-requires c =
    let within : c.loop-i.i ≤ length c.args.tree.now = omega (arith, c.loop-i.auto.i, c.len-i.ensures) in
    below_before c.args.tree.now c.loop-i.ranks.items c.deref.result.now c.loop-i.i c.node-node.result.now c.law_linked.ensures.linked (omega (arith, c.loop-i-test.true)) within c.deref.ensures.value c.node-node.ensures
    c.loop-i.invariant

pub loop-i-preserved : goal.loop-i-preserved
loop-i-preserved c =
    let within : c.loop-i.i ≤ length c.args.tree.now = omega (arith, c.loop-i.auto.i, c.len-i.ensures) in
    ranked_before c.args.tree.now c.loop-i.ranks.items c.deref.result.now c.loop-i.i c.node-node.result.now c.law_linked.ensures.linked (omega (arith, c.loop-i-test.true)) within c.deref.ensures.value c.node-node.ensures
    c.loop-i.invariant c.in_ok-ranks-2.field-0 c.in_ok-ranks-2.ensures
