use Rattle.std.proofs.Common.{◌∷◌, ap, subst, IsPermutation, arith}
use Rattle.std.specs.BinaryHeap.{heap_items}
use Rattle.std.proofs.lemmas.List.Sorted.{IsPermutation-map}
use Rattle.std.specs.declared.cmp.Reverse.{Reverse}
use Rattle.cfn_queue.specs.declared.list.OpenLeaf.{OpenLeaf}
use Rattle.cfn_queue.specs.Listing.{Listing, leaves_of}
use Rattle.cfn_queue.proofs.Order.{of_ok}
use Rattle.cfn_queue.proofs.list.OpenList.insert.Goals as goal

pub returns-clause-leaves : goal.returns-clause-leaves
returns-clause-leaves c =
    let spare = ap (λ (l : Listing). l.spare) c.self.view_is in
    let ok = c.push.ensures.succeeds (omega (arith, spare, c.requires.room)) in
    subst (λ (l : Listing). IsPermutation (c.args.leaf ∷ l.leaves) (leaves_of (heap_items c.push.new.self))) c.self.view_is
    (IsPermutation-map (λ (r : Reverse OpenLeaf). r.0) _ _ (of_ok c.push.result ok c.push.ensures.permutation))

pub returns-clause-room : goal.returns-clause-room
returns-clause-room c =
    let spare = ap (λ (l : Listing). l.spare) c.self.view_is in
    let ok = c.push.ensures.succeeds (omega (arith, spare, c.requires.room)) in
    let len = of_ok c.push.result ok c.push.ensures.len in
    omega (arith, spare, len, c.push.ensures.capacity)
