use Rattle.std.proofs.Common.{◌≤◌, length, ap, ap₂, ◌∙◌, arith}
use Rattle.cfn_proof.specs.Nodes.{tree_of}
use Rattle.cfn_mending.specs.Joining.{join}
use Rattle.cfn_merge.specs.Same.{same}
use Rattle.cfn_merge.proofs.Walks.{walk_ends}
use Rattle.cfn_merge.proofs.joining.join.Goals as goal

pub returns : goal.returns
returns c =
    let sources = c.loop-i.walk.sources in
    let end : length sources.items ≤ c.loop-i.i = omega (arith, c.loop-i-test.false, c.len.ensures, sources.ok.0) in
    ap tree_of c.in_ok-share.ensures
    ∙ walk_ends c.in_ok-pair.pair.first.tree.now c.in_ok-pair.pair.second.tree.now c.loop-i.walk.tree sources.items c.loop-i.i c.law_linked.ensures.linked end c.loop-i.invariant
    ∙ ap₂ (λ a b. join same (tree_of a) (tree_of b)) c.in_ok-pair.ensures.first c.in_ok-pair.ensures.second
