use Rattle.std.proofs.Common.{◌≡◌, ◌∙◌, [], ap, sym, subst, refl, arith, length, map, All, ◌++◌, vec_capacity}
use Rattle.cfn_model.specs.Sums.{floor}
use Rattle.cfn_leaves.specs.Standing.{marked}
use Rattle.cfn_leaves.specs.Listed.{IsListed, outs}
use Rattle.cfn_leaves.proofs.Grafting.{outs_behind}
use Rattle.cfn_leaves.specs.Walked.{spots_of}
use Rattle.cfn_leaves.specs.Placed.{placed, FitsPlace}
use Rattle.cfn_leaves.proofs.Opened.{root_fits, nothing_listed, opened, all_kept}
use Rattle.cfn_leaves.proofs.leaves.Leaves.bare.Goals as goal

pub place-requires-clause-fit : goal.place-requires-clause-fit
place-requires-clause-fit c =
    let spots : c.deref.result.now ≡ spots_of c.args.tree c.constants.result = c.deref.ensures.value ∙ c.in_ok-walk.ensures.spots in
    subst (All (FitsPlace 1)) (sym spots) (root_fits c.args.network.now c.args.tree c.constants.result c.law_linked.ensures.linked)

pub invariant_of-result-3 : goal.invariant_of-result-3
invariant_of-result-3 c =
    let P = c.args.network.now in
    let spots : c.deref.result.now ≡ spots_of c.args.tree (floor P []) = c.deref.ensures.value ∙ c.in_ok-walk.ensures.spots ∙ ap (spots_of c.args.tree) c.constants.ensures.value in
    let none : c.reserve.new.table.items ≡ [] = c.reserve.ensures.table ∙ c.new-table.ensures.items in
    let no_leaf : c.reserve.new.list.leaves ≡ [] = c.reserve.ensures.list ∙ c.make-list.ensures in
    let table : c.place.new.table.items ≡ map (placed 0 1) c.deref.result.now = c.place.ensures.table ∙ ap (λ t. t ++ map (placed 0 1) c.deref.result.now) none in
    let listed = c.place.ensures.listed (subst (λ t. IsListed t c.reserve.new.list.leaves) (sym none) (nothing_listed c.reserve.new.list.leaves no_leaf)) in
    let size : length c.deref.result.now ≡ c.len-more.result = c.deref.ensures.len ∙ sym c.len-more.ensures in
    let long : length c.place.new.list.leaves ≡ length c.deref.result.now = omega (arith, c.place.ensures.len, ap length no_leaf) in
    let o = opened P c.args.tree c.deref.result.now c.place.new.table.items c.place.new.list c.law_same_before.ensures.once c.law_linked.ensures.linked spots table listed long
    (omega (arith, c.in_ok-reserve.ensures.few, size)) in
    all_kept P c.of.result.value c.args.tree _ c.place.new.table.items c.place.new.list _ (length c.deref.result.now) c.len-more.result c.args.budget c.in_ok-with_capacity.field-0.items (vec_capacity c.in_ok-with_capacity.field-0)
    c.of.ensures c.tree.view_is c.list-2.view_is (sym size) c.in_ok-with_capacity.ensures.items c.in_ok-with_capacity.ensures.capacity o.body

pub returns : goal.returns
returns c =
    let P = c.args.network.now in
    let spots : c.deref.result.now ≡ spots_of c.args.tree (floor P []) = c.deref.ensures.value ∙ c.in_ok-walk.ensures.spots ∙ ap (spots_of c.args.tree) c.constants.ensures.value in
    let none : c.reserve.new.table.items ≡ [] = c.reserve.ensures.table ∙ c.new-table.ensures.items in
    let no_leaf : c.reserve.new.list.leaves ≡ [] = c.reserve.ensures.list ∙ c.make-list.ensures in
    let table : c.place.new.table.items ≡ map (placed 0 1) c.deref.result.now = c.place.ensures.table ∙ ap (λ t. t ++ map (placed 0 1) c.deref.result.now) none in
    let listed = c.place.ensures.listed (subst (λ t. IsListed t c.reserve.new.list.leaves) (sym none) (nothing_listed c.reserve.new.list.leaves no_leaf)) in
    let size : length c.deref.result.now ≡ c.len-more.result = c.deref.ensures.len ∙ sym c.len-more.ensures in
    let long : length c.place.new.list.leaves ≡ length c.deref.result.now = omega (arith, c.place.ensures.len, ap length no_leaf) in
    let o = opened P c.args.tree c.deref.result.now c.place.new.table.items c.place.new.list c.law_same_before.ensures.once c.law_linked.ensures.linked spots table listed long
    (omega (arith, c.in_ok-reserve.ensures.few, size)) in
    record {
      network = c.of.ensures;
      tree_is = ap (λ n. marked n c.place.new.table.items) c.tree.view_is ∙ o.tree_is;
      next = o.next;
      budget_is = refl;
      begun = c.in_ok-walk.ensures.made;
      nodes = refl;
      rows = c.in_ok-with_capacity.ensures.items;
      none_out = ap outs table ∙ outs_behind [] 0 1 c.deref.result.now;
    }
