use Rattle.std.proofs.Common.{refl, subst, arith}
use Rattle.std.specs.BinaryHeap.{heap_items}
use Rattle.cfn_queue.specs.Listing.{Listing, IsLeast}
use Rattle.cfn_queue.proofs.Order.{least_is_top}
use Rattle.cfn_queue.proofs.list.OpenList.least.Goals as goal

pub returns-in-Some : goal.returns-in-Some
returns-in-Some c =
    let some = c.in-Some.ensures.variant.0 refl in
    let len = c.self.inside.heap.data.ok.0 in
    subst (λ (l : Listing). IsLeast l.leaves c.in-Some.field-0.now.0) c.self.view_is (least_is_top c.in-Some.field-0.now (heap_items c.self.inside.heap) (omega (arith, some, len)) c.in-Some.ensures.lookup (c.in-Some.ensures.greatest c.self.invariant))
