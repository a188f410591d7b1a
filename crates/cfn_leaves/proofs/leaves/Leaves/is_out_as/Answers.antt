use Rattle.std.proofs.Common.{◌↔◌, ◌∙◌, ℕ, sym, subst, refl, None}
use Rattle.std.specs.Prelude.{IsTrue}
use Rattle.cfn_leaves.specs.Out.{IsOutEntry, IsTaskOut}
use Rattle.cfn_leaves.specs.Ways.{IsPathOf}
use Rattle.cfn_leaves.specs.Value.{Holding, pool_tree}
use Rattle.cfn_leaves.proofs.Bodies.{is_held}
use Rattle.cfn_leaves.proofs.Outs.{path_out, out_path}
use Rattle.cfn_leaves.proofs.Insides.{value, body}
use Rattle.cfn_leaves.proofs.leaves.Leaves.is_out_as.Goals as goal

pub is_at-requires : goal.is_at-requires
is_at-requires c =
    let m = value c.self.inside in
    let entry = subst (λ (h : Holding). IsOutEntry h c.leaf.result c.from-worker.result c.grant.result c.in-Some.entry) (sym c.self.view_is) c.in-Some.ensures in
    (is_held m.network (body c.self.inside) (pool_tree m) c.leaf.result c.in-Some.entry c.law_same_before.ensures.once c.self.invariant.body entry.is).there

pub returns-in-Some : goal.returns-in-Some
returns-in-Some c =
    let m = value c.self.inside in
    let task = c.args.task.now.task in
    let e = c.in-Some.entry in
    let T : ℕ → ℕ → ℕ → Type 0 = λ n w g. IsOutEntry m n w g e in
    let entry : T task.leaf task.worker task.grant =
    subst (λ n. T n task.worker task.grant) c.leaf.ensures
    (subst (λ w. T c.leaf.result w task.grant) (c.from-worker.ensures ∙ c.worker.ensures)
    (subst (λ g. T c.leaf.result c.from-worker.result g) c.grant.ensures
    (subst (λ (h : Holding). IsOutEntry h c.leaf.result c.from-worker.result c.grant.result e) (sym c.self.view_is) c.in-Some.ensures))) in
    subst (λ (h : Holding). IsTrue c.is_at.result ↔ IsTaskOut h task) c.self.view_is (
      λ yes. path_out m (body c.self.inside) task e c.law_same_before.ensures.once refl refl c.self.invariant.body entry (subst (IsPathOf m.tree e.node.number) c.path.ensures (c.is_at.ensures.0 yes)),
      λ out. c.is_at.ensures.1 (subst (IsPathOf m.tree e.node.number) (sym c.path.ensures) (out_path m (body c.self.inside) task e c.law_same_before.ensures.once refl refl c.self.invariant.body entry (record { best = None; seen = 0; shares = 0 }) out)),
    )
