use Rattle.std.proofs.Common.{◌≡◌, ap₂, sym, subst, arith}
use Rattle.cfn_machine.specs.Pool.{recalled}
use Rattle.cfn_machine.specs.Steps.{PoolRecalls}
use Rattle.cfn_leaves.specs.Standing.{marked}
use Rattle.cfn_leaves.specs.Value.{Holding, IsBody, pool_of, pool_tree}
use Rattle.cfn_leaves.proofs.Trees.{marked_is}
use Rattle.cfn_leaves.proofs.Insides.{value}
use Rattle.cfn_leaves.proofs.leaves.Leaves.recall.Goals as goal

pub invariant_of-self : goal.invariant_of-self
invariant_of-self c =
    let m = value c.self.inside in
    let b = c.free_all.ensures.body m.network m.tree c.self.inside.opened c.self.inside.granted c.self.invariant.body in
    let tree : marked m.tree c.free_all.new.table.items ≡ recalled (pool_tree m) = marked_is m.network m.tree c.free_all.new.table.items (recalled (pool_tree m)) c.law_same_before.ensures.once b.are in
    record {
      body = subst (IsBody m.network _) (sym tree) b;
      within = omega (arith, c.self.invariant.within);
      few = c.self.invariant.few;
      place = c.self.invariant.place;
    }

pub returns-clause-recalls : goal.returns-clause-recalls
returns-clause-recalls c = λ view.
    let m = value c.self.inside in
    let b = c.free_all.ensures.body m.network m.tree c.self.inside.opened c.self.inside.granted c.self.invariant.body in
    let tree : marked m.tree c.free_all.new.table.items ≡ recalled (pool_tree m) = marked_is m.network m.tree c.free_all.new.table.items (recalled (pool_tree m)) c.law_same_before.ensures.once b.are in
    let new : Holding = record m { table = c.free_all.new.table.items } in
    subst (λ (old : Holding). PoolRecalls (pool_of old view) (pool_of new view)) c.self.view_is
    (ap₂ (λ t n. record { tree = t; next = n; budget = m.budget; begun = m.begun; nodes = m.nodes; rows = m.rows; view = view }) tree c.free_all.ensures.len)
