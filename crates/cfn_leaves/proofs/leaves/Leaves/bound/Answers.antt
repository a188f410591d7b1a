use Rattle.std.proofs.Common.{◌≡◌, ◌∙◌, ap, sym, subst, arith, [], None, drop, ◌+◌}
use Rattle.std.proofs.lemmas.List.{at_drop_all, at_drop_more}
use Rattle.cfn_model.specs.Tree.{bound}
use Rattle.cfn_machine.specs.Pool.{tree_of}
use Rattle.cfn_leaves.specs.Read.{least_floor}
use Rattle.cfn_leaves.specs.Value.{Holding, pool_tree}
use Rattle.cfn_leaves.proofs.Bounds.{least_bound}
use Rattle.cfn_leaves.proofs.Insides.{value}
use Rattle.cfn_leaves.proofs.leaves.Leaves.bound.Goals as goal

pub loop-held-preserved : goal.loop-held-preserved
loop-held-preserved c =
    let items = c.deref-held-items.result.now in
    let i = c.loop-held.held-index in
    ap (λ k. least_floor k (drop (i + 1) items)) c.lesser-least.ensures ∙ sym (at_drop_more (least_floor c.loop-held.least) items i None c.loop-held-test.true) ∙ c.loop-held.invariant

pub returns : goal.returns
returns c =
    let m = value c.self.inside in
    let items = c.deref-held-items.result.now in
    let all : c.loop-held.least ≡ least_floor c.args.threshold items = sym (at_drop_all (least_floor c.loop-held.least) items c.loop-held.held-index (omega (arith, c.loop-held-test.false))) ∙ c.loop-held.invariant in
    let low : c.loop-held.least ≡ bound m.network [] (tree_of (pool_tree m)) c.args.threshold =
    all ∙ ap (least_floor c.args.threshold) c.deref-held-items.ensures.value ∙ least_bound m.network c.args.threshold m.tree m.table (pool_tree m) c.law_same_before.ensures.once c.self.invariant.body.are in
    subst (λ (old : Holding). c.loop-held.least ≡ bound old.network [] (tree_of (pool_tree old)) c.args.threshold) c.self.view_is low
