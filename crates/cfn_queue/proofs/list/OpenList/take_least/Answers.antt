use Rattle.std.proofs.Common.{◌∷◌, ap, subst, IsPermutation, arith}
use Rattle.std.specs.BinaryHeap.{heap_items}
use Rattle.std.proofs.lemmas.List.Sorted.{IsPermutation-map}
use Rattle.std.specs.declared.cmp.Reverse.{Reverse}
use Rattle.cfn_queue.specs.declared.list.OpenLeaf.{OpenLeaf}
use Rattle.cfn_queue.specs.Listing.{Listing, IsLeast, leaves_of}
use Rattle.cfn_queue.proofs.Order.{least_is_top}
use Rattle.cfn_queue.proofs.list.OpenList.take_least.Goals as goal

pub returns-clause-least : goal.returns-clause-least
returns-clause-least c =
    let some = c.in_ok-leaf.ensures.len in
    let len = c.self.inside.heap.data.ok.0 in
    subst (λ (l : Listing). IsLeast l.leaves c.in_ok-leaf.field-0.0) c.self.view_is (least_is_top c.in_ok-leaf.field-0 (heap_items c.self.inside.heap) (omega (arith, some, len)) c.in_ok-leaf.ensures.top (c.in_ok-leaf.ensures.heap_order c.self.invariant).1)

pub returns-clause-rest : goal.returns-clause-rest
returns-clause-rest c =
    let some = c.in_ok-leaf.ensures.len in
    let spare = ap (λ (l : Listing). l.spare) c.self.view_is in (
      subst (λ (l : Listing). IsPermutation l.leaves (c.in_ok-leaf.field-0.0 ∷ leaves_of (heap_items c.pop.new.self))) c.self.view_is
          (IsPermutation-map (λ (r : Reverse OpenLeaf). r.0) _ _ c.in_ok-leaf.ensures.permutation),
      omega (arith, spare, some, c.in_ok-leaf.ensures.capacity, c.self.inside.heap.data.ok.1),
    )
