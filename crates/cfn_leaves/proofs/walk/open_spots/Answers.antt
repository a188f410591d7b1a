use Rattle.std.proofs.Common.{◌≡◌, length, arith, vec_len}
use Rattle.cfn_model.specs.Tree.{count}
use Rattle.cfn_proof.specs.Nodes.{tree_of}
use Rattle.cfn_leaves.specs.Walked.{spots_of}
use Rattle.cfn_leaves.proofs.Walks.{way_begins, way_ends, popped, fewer, none_there}
use Rattle.cfn_leaves.proofs.walk.open_spots.Goals as goal

pub loop-spot-init : goal.loop-spot-init
loop-spot-init c = way_begins c.args.tree.now c.args.floor c.in_ok-walk.walk.made c.in_ok-walk.walk.spots.items c.in_ok-walk.walk.ahead.items c.law_linked.ensures.linked c.in_ok-walk.ensures.spots c.in_ok-walk.ensures.made c.in_ok-walk.ensures.ahead

pub visit-requires-clause-there : goal.visit-requires-clause-there
visit-requires-clause-there c =
    (popped c.args.tree.now (spots_of c.args.tree.now c.args.floor) c.loop-spot.walk.spots.items (count (tree_of c.args.tree.now)) c.loop-spot.walk.made c.loop-spot.walk.ahead.items c.pop.new.self.items c.in-Some.spot c.in-Some.ensures.items c.loop-spot.invariant).there.0

pub visit-requires-clause-room : goal.visit-requires-clause-room
visit-requires-clause-room c =
    let way = popped c.args.tree.now (spots_of c.args.tree.now c.args.floor) c.loop-spot.walk.spots.items (count (tree_of c.args.tree.now)) c.loop-spot.walk.made c.loop-spot.walk.ahead.items c.pop.new.self.items c.in-Some.spot c.in-Some.ensures.items c.loop-spot.invariant in
    omega (arith, way.count, c.requires)

pub loop-spot-smaller : goal.loop-spot-smaller
loop-spot-smaller c =
    let way = popped c.args.tree.now (spots_of c.args.tree.now c.args.floor) c.loop-spot.walk.spots.items (count (tree_of c.args.tree.now)) c.loop-spot.walk.made c.loop-spot.walk.ahead.items c.pop.new.self.items c.in-Some.spot c.in-Some.ensures.items c.loop-spot.invariant in
    fewer c.args.tree.now _ _ _ _ _ _ _ _ c.loop-spot.invariant (c.in_ok-visit.ensures.on_way _ _ way) c.in_ok-visit.ensures.one

pub loop-spot-preserved : goal.loop-spot-preserved
loop-spot-preserved c =
    let way = popped c.args.tree.now (spots_of c.args.tree.now c.args.floor) c.loop-spot.walk.spots.items (count (tree_of c.args.tree.now)) c.loop-spot.walk.made c.loop-spot.walk.ahead.items c.pop.new.self.items c.in-Some.spot c.in-Some.ensures.items c.loop-spot.invariant in
    c.in_ok-visit.ensures.on_way _ _ way

pub returns-clause-spots : goal.returns-clause-spots
returns-clause-spots c =
    let len : vec_len c.loop-spot.walk.ahead ≡ length c.loop-spot.walk.ahead.items = c.loop-spot.walk.ahead.ok.0 in
    (way_ends c.args.tree.now _ _ _ _ c.loop-spot.walk.ahead.items (none_there c.loop-spot.walk.ahead.items _ len c.in_default.ensures.cases.0) c.loop-spot.invariant).0

pub returns-clause-made : goal.returns-clause-made
returns-clause-made c =
    let len : vec_len c.loop-spot.walk.ahead ≡ length c.loop-spot.walk.ahead.items = c.loop-spot.walk.ahead.ok.0 in
    (way_ends c.args.tree.now _ _ _ _ c.loop-spot.walk.ahead.items (none_there c.loop-spot.walk.ahead.items _ len c.in_default.ensures.cases.0) c.loop-spot.invariant).1
