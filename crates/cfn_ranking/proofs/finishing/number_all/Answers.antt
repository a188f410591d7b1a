use Rattle.std.proofs.Common.{length, arith}
use Rattle.std.specs.Prelude.{slice_index_or}
use Rattle.cfn_proof.specs.declared.tree.NodeId.{NodeId}
use Rattle.cfn_ranking.proofs.Numbers.{all_numbered, none_numbered, one_numbered, room_for, same_at}
use Rattle.cfn_ranking.proofs.finishing.number_all.Goals as goal

pub loop-j-init : goal.loop-j-init
loop-j-init c = none_numbered c.args.leaves.now c.args.numbers.now.items

pub loop-j-preserved : goal.loop-j-preserved
loop-j-preserved c =
    let nobody : NodeId = record { number = 0 } in
    let leaf = slice_index_or c.args.leaves.now c.loop-j.j nobody in
    one_numbered c.args.leaves.now c.loop-j.j c.args.numbers.now.items c.loop-j.numbers.items leaf c.loop-j-test.true (same_at c.args.leaves.now c.loop-j.j nobody leaf c.loop-j-test.true) c.requires.there c.loop-j.invariant

pub returns : goal.returns
returns c = all_numbered c.args.leaves.now c.loop-j.j c.args.numbers.now.items c.loop-j.numbers.items c.loop-j-test.false c.loop-j.invariant

pub index_mut-requires : goal.index_mut-requires
index_mut-requires c =
    let nobody : NodeId = record { number = 0 } in
    let leaf = slice_index_or c.args.leaves.now c.loop-j.j nobody in
    let h = room_for c.args.leaves.now (length c.args.numbers.now.items) c.loop-j.j leaf c.requires.there c.loop-j-test.true (same_at c.args.leaves.now c.loop-j.j nobody leaf c.loop-j-test.true) in
    let s = c.loop-j.invariant.same in
    let k = c.loop-j.numbers.ok.0 in
    omega (arith, h, s, k)
