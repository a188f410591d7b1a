use Rattle.std.proofs.Common.{rules, tests, ◌∙◌, sym, ap, subst, IsPermutation}
use Rattle.std.specs.BinaryHeap.{heap_items}
use Rattle.std.specs.List.{filter}
use Rattle.std.proofs.lemmas.Fn.{filter_same}
use Rattle.std.proofs.lemmas.List.Sorted.{IsPermutation-map}
use Rattle.std.specs.declared.cmp.Reverse.{Reverse}
use Rattle.cfn_queue.specs.declared.list.OpenLeaf.{OpenLeaf}
use Rattle.cfn_queue.specs.Listing.{Listing, leaves_of, is_below}
use Rattle.cfn_queue.proofs.Keeping.{below, kept_leaves}
use Rattle.cfn_queue.proofs.list.OpenList.keep_below.Goals as goal

pub returns-clause-leaves : goal.returns-clause-leaves
returns-clause-leaves c =
    let k = c.args.k in
    let items = heap_items c.self.inside.heap in
    let kept = c.retain.ensures.filtered in
    let same = filter_same _ (below k) _ (λ x b f h. search (rules, tests)) items kept.0 kept.1 in
    subst (λ (l : Listing). IsPermutation (filter (is_below k) l.leaves) (leaves_of (heap_items c.retain.new.self))) c.self.view_is
    (subst (λ l. IsPermutation l (leaves_of (heap_items c.retain.new.self))) (ap leaves_of same ∙ sym (kept_leaves k items))
    (IsPermutation-map (λ (r : Reverse OpenLeaf). r.0) kept.0 (heap_items c.retain.new.self) kept.2))
