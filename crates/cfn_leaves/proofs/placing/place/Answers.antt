use Rattle.std.proofs.Common.{◌≡◌, ◌++◌, ◌∷◌, [], ◌∙◌, ap, sym, subst, refl, arith, append-nil, append_assoc, map, take, length, Some, take_all, get_or}
use Rattle.cfn_leaves.specs.declared.walk.Spot.{Spot}
use Rattle.std.proofs.lemmas.List.{map_more}
use Rattle.std.proofs.lemmas.List.Sorted.{length_permutation}
use Rattle.cfn_leaves.specs.declared.entry.Mark.TheVariants as held
use Rattle.cfn_leaves.specs.Listed.{IsListed}
use Rattle.cfn_leaves.specs.Placed.{placed}
use Rattle.cfn_leaves.proofs.Lists.{listed_behind}
use Rattle.cfn_leaves.proofs.placing.place.Goals as goal

pub loop-spot-init : goal.loop-spot-init
loop-spot-init c = record { table = sym (append-nil c.args.table.now.items); len = omega arith; capacity = refl; listed = λ h. h; leaves = omega arith; room = omega arith }

pub put-requires-clause-few : goal.put-requires-clause-few
put-requires-clause-few c = let len = c.loop-spot.table.ok.0 in let was = c.args.table.now.ok.0 in omega (arith, c.loop-spot.invariant.len, len, was, c.requires.few, c.loop-spot-test.true)

pub put-requires-clause-room : goal.put-requires-clause-room
put-requires-clause-room c = omega (arith, c.loop-spot.invariant.len, c.loop-spot.invariant.capacity, c.requires.room, c.loop-spot-test.true)

pub put-requires-clause-list : goal.put-requires-clause-list
put-requires-clause-list c = omega (arith, c.loop-spot.invariant.room, c.requires.list, c.loop-spot-test.true)

pub loop-spot-preserved : goal.loop-spot-preserved
loop-spot-preserved c =
    let i = c.loop-spot.spot-index in
    let spots = c.args.spots.now in
    let inv = c.loop-spot.invariant in
    let none : Spot = record { node = record { number = 0 }; floor = 0 } in
    let s : Spot = get_or spots i none in
    let to : Spot → _ = placed c.args.leaf.number c.args.nodes in
    let here : Some (record { node = c.moved_to.result; mark = held.Free; floor = s.floor }) ≡ to s = ap (λ n. Some (record { node = record { number = n }; mark = held.Free; floor = s.floor })) c.moved_to.ensures in
    let long = length_permutation (record { floor = s.floor; leaf = length c.loop-spot.table.items } ∷ c.loop-spot.list.leaves) c.put.new.list.leaves c.put.ensures.leaves in
    record {
      table =
          c.put.ensures.table ∙ ap (λ o. c.loop-spot.table.items ++ o ∷ []) here ∙ ap (λ t. t ++ to s ∷ []) inv.table ∙ append_assoc c.args.table.now.items (map to (take i spots)) (to s ∷ [])
          ∙ ap (λ l. c.args.table.now.items ++ l) (sym (map_more to spots i none c.loop-spot-test.true));
      len = omega (arith, c.put.ensures.len, inv.len);
      capacity = c.put.ensures.capacity ∙ inv.capacity;
      listed = λ h. subst (λ t. IsListed t c.put.new.list.leaves) (sym c.put.ensures.table)
          (listed_behind c.loop-spot.table.items c.loop-spot.list.leaves c.put.new.list.leaves (record { floor = s.floor; leaf = length c.loop-spot.table.items }) (record { node = c.moved_to.result; mark = held.Free; floor = s.floor }) (inv.listed h) c.put.ensures.leaves refl refl refl);
      leaves = omega (arith, long, inv.leaves);
      room = omega (arith, c.put.ensures.room, inv.room);
    }

pub returns-clause-table : goal.returns-clause-table
returns-clause-table c = c.loop-spot.invariant.table ∙ ap (λ s. c.args.table.now.items ++ map (placed c.args.leaf.number c.args.nodes) s) (take_all c.loop-spot.spot-index c.args.spots.now c.loop-spot-test.false)

pub returns-clause-listed : goal.returns-clause-listed
returns-clause-listed c = c.loop-spot.invariant.listed

pub returns-clause-len : goal.returns-clause-len
returns-clause-len c = omega (arith, c.loop-spot.invariant.leaves, c.loop-spot-test.false, c.loop-spot.auto.spot-index-end)

pub returns-clause-room : goal.returns-clause-room
returns-clause-room c = omega (arith, c.loop-spot.invariant.room, c.loop-spot-test.false, c.loop-spot.auto.spot-index-end)
