use Rattle.std.proofs.Common.{◌≡◌, ◌∙◌, ◌+◌, ◌≤◌, ap, sym, subst, refl, arith, length, Some, [], IsPermutation, vec_capacity}
use Rattle.std.specs.List.{filter}
use Rattle.cfn_machine.specs.Pool.{swept}
use Rattle.cfn_machine.specs.Steps.{PoolSweeps}
use Rattle.cfn_queue.specs.Listing.{is_below}
use Rattle.cfn_leaves.specs.Standing.{entry_at, marked}
use Rattle.cfn_leaves.specs.Value.{Holding, pool_of, pool_tree}
use Rattle.cfn_leaves.proofs.ClosedFree.{ahead, stay, begun, is_next, next_listed, closes}
use Rattle.cfn_leaves.proofs.Insides.{value, body, same_pool}
use Rattle.cfn_leaves.proofs.Sweeps.{SweepsOn, next_high, next_low, all_swept}
use Rattle.cfn_leaves.proofs.Trees.{some_none}
use Rattle.cfn_leaves.proofs.leaves.Leaves.sweep.Goals.{then-leaf-k+in-Some, then-leaf-k+in_default, else-leaf-k}
use Rattle.cfn_leaves.proofs.leaves.Leaves.sweep.Goals as goal

pub loop-place-init : goal.loop-place-init
loop-place-init c = record {
  sweeping = begun c.self.inside.network.value c.args.word (body c.self.inside) c.self.invariant.body;
  list = refl;
  network = refl;
  granted = refl;
  budget = refl;
  begun = refl;
  nodes = refl;
  rows = refl;
}

pub close-requires-clause-there : goal.close-requires-clause-there
close-requires-clause-there c =
    let first = c.self.inside in
    let m = c.loop-place.self-inside in
    let leaf = c.at-leaf.result in
    let i = c.loop-place.place in
    let at : entry_at m.table.items leaf.leaf ≡ Some c.in-Some.entry = ap (λ l. entry_at l leaf.leaf) (sym c.deref.ensures.value) ∙ sym c.held.ensures ∙ c.in-Some.is in
    let on = next_high c.args.word first m i leaf c.loop-place.invariant (omega (arith, c.loop-place-test.true, c.len-place-end.ensures)) c.at-leaf.ensures (omega (arith, c.if-leaf-k.true, c.from-k.ensures)) in
    (is_next m.network.value c.args.word (marked first.tree first.table.items) (length first.table.items) (body m) leaf (ahead c.args.word first.list.leaves (i + 1)) (stay c.args.word first.list.leaves) c.in-Some.entry c.law_same_before.ensures.once on at).there

pub close-requires-clause-free : goal.close-requires-clause-free
close-requires-clause-free c =
    let first = c.self.inside in
    let m = c.loop-place.self-inside in
    let leaf = c.at-leaf.result in
    let i = c.loop-place.place in
    let at : entry_at m.table.items leaf.leaf ≡ Some c.in-Some.entry = ap (λ l. entry_at l leaf.leaf) (sym c.deref.ensures.value) ∙ sym c.held.ensures ∙ c.in-Some.is in
    let on = next_high c.args.word first m i leaf c.loop-place.invariant (omega (arith, c.loop-place-test.true, c.len-place-end.ensures)) c.at-leaf.ensures (omega (arith, c.if-leaf-k.true, c.from-k.ensures)) in
    (is_next m.network.value c.args.word (marked first.tree first.table.items) (length first.table.items) (body m) leaf (ahead c.args.word first.list.leaves (i + 1)) (stay c.args.word first.list.leaves) c.in-Some.entry c.law_same_before.ensures.once on at).free

pub loop-place-preserved : goal.loop-place-preserved
loop-place-preserved c =
    let first = c.self.inside in
    let k = c.args.word in
    let m = c.loop-place.self-inside in
    let leaf = c.at-leaf.result in
    let i = c.loop-place.place in
    let inv = c.loop-place.invariant in
    let below = c.loop-place-test.true in
    let len = c.len-place-end.ensures in
    let from = c.from-k.ensures in
    elim c.if-leaf-k.branch [
      | then-leaf-k+in-Some w ↦
          (let at : entry_at m.table.items leaf.leaf ≡ Some w.in-Some.entry = ap (λ l. entry_at l leaf.leaf) (sym w.deref.ensures.value) ∙ sym w.held.ensures ∙ w.in-Some.is in
          let high = w.if-leaf-k.true in
          let on = next_high k first m i leaf inv (omega (arith, below, len)) c.at-leaf.ensures (omega (arith, high, from)) in
          let closed = closes m.network.value k (marked first.tree first.table.items) (length first.table.items) (body m) leaf (ahead k first.list.leaves (i + 1)) (stay k first.list.leaves) w.in-Some.entry w.close.new.tree w.close.new.table.items
          c.law_same_before.ensures.once on at w.close.ensures.tree w.close.ensures.linked w.close.ensures.table in
          subst (λ now. SweepsOn k first now (i + 1)) (sym w.self-inside-is)
          (record { sweeping = closed.1; list = inv.list; network = inv.network; granted = inv.granted; budget = inv.budget; begun = inv.begun; nodes = inv.nodes; rows = inv.rows }))
      | then-leaf-k+in_default w ↦
          (let high = w.if-leaf-k.true in
          let on = next_high k first m i leaf inv (omega (arith, below, len)) c.at-leaf.ensures (omega (arith, high, from)) in
          let own = next_listed m.network.value k (marked first.tree first.table.items) (length first.table.items) (body m) leaf (ahead k first.list.leaves (i + 1)) (stay k first.list.leaves) on in
          some_none (sym (ap (λ l. entry_at l leaf.leaf) (sym w.deref.ensures.value) ∙ sym w.held.ensures ∙ w.in_default.is) ∙ own.is))
      | else-leaf-k w ↦
          (let low = w.if-leaf-k.false in
          subst (λ now. SweepsOn k first now (i + 1)) (sym w.self-inside-is) (next_low k first m i leaf inv (omega (arith, below, len)) c.at-leaf.ensures (omega (arith, low, from))))
    ]

pub invariant_of-self : goal.invariant_of-self
invariant_of-self c =
    let first = c.self.inside in
    let k = c.args.word in
    let m = c.loop-place.self-inside in
    let inv = c.loop-place.invariant in
    let kept = subst (λ n. IsPermutation (filter (is_below n) m.list.leaves) c.keep_below.new.self.leaves) c.from-k.ensures c.keep_below.ensures.leaves in
    let e = all_swept k first m c.loop-place.place c.keep_below.new.self c.law_same_before.ensures.once inv (omega (arith, c.loop-place-test.false, c.len-place-end.ensures)) kept c.keep_below.ensures.room in
    record {
      body = e.1;
      within = omega (arith, c.self.invariant.within, inv.nodes, inv.granted, inv.budget);
      few = subst (λ (r : _). length r.items ≤ 256) (sym inv.rows) c.self.invariant.few;
      place = subst (λ r. 256 ≤ vec_capacity r) (sym inv.rows) c.self.invariant.place;
    }

pub returns-clause-sweeps : goal.returns-clause-sweeps
returns-clause-sweeps c = λ view.
    let first = c.self.inside in
    let k = c.args.word in
    let m = c.loop-place.self-inside in
    let inv = c.loop-place.invariant in
    let kept = subst (λ n. IsPermutation (filter (is_below n) m.list.leaves) c.keep_below.new.self.leaves) c.from-k.ensures c.keep_below.ensures.leaves in
    let e = all_swept k first m c.loop-place.place c.keep_below.new.self c.law_same_before.ensures.once inv (omega (arith, c.loop-place-test.false, c.len-place-end.ensures)) kept c.keep_below.ensures.room in
    let old = value first in
    subst (λ (old : Holding). PoolSweeps old.network (pool_of old view) k (pool_of (value m) (record view { seen = k }))) c.self.view_is
    (same_pool (record view { seen = k }) (e.0 ∙ ap (λ (n : _). swept n.value k (pool_tree old) []) inv.network) inv.sweeping.long inv.budget inv.begun inv.nodes (ap (λ r. r.items) inv.rows))
