use Rattle.std.proofs.Common.{◌≡◌, ◌∙◌, sym, arith, length, Some}
use Rattle.std.proofs.lemmas.List.Sorted.{length_permutation}
use Rattle.cfn_machine.specs.Parts.{has_leaf}
use Rattle.cfn_leaves.proofs.Asides.{begun, ended, kept_one, set_one}
use Rattle.cfn_leaves.proofs.setting_aside.set_aside.Goals as goal

pub loop-leaf-init : goal.loop-leaf-init
loop-leaf-init c =
    begun (has_leaf (Some c.args.part)) c.args.table.now.items c.args.list.now c.reserve.new.self c.requires.listed c.requires.free (c.in_ok-reserve.ensures.leaves ∙ c.make-own.ensures)
    (omega (arith, c.in_ok-reserve.ensures.ok, c.len.ensures))

pub loop-leaf-smaller-then-has : goal.loop-leaf-smaller-then-has
loop-leaf-smaller-then-has c = let long = length_permutation c.loop-leaf.list.leaves _ c.in-Some.ensures.rest.0 in omega (arith, long)

pub loop-leaf-preserved-then-has : goal.loop-leaf-preserved-then-has
loop-leaf-preserved-then-has c =
    kept_one (has_leaf (Some c.args.part)) c.args.table.now.items c.args.list.now c.loop-leaf.table.items c.loop-leaf.own c.loop-leaf.list c.insert.new.self c.take_least.new.self c.in-Some.leaf c.loop-leaf.invariant
    c.in-Some.ensures.rest.0 (sym c.has.ensures ∙ c.if-has.true) c.insert.ensures.leaves c.insert.ensures.room

pub loop-leaf-smaller : goal.loop-leaf-smaller
loop-leaf-smaller c = let long = length_permutation c.loop-leaf.list.leaves _ c.in-Some.ensures.rest.0 in omega (arith, long)

pub loop-leaf-preserved : goal.loop-leaf-preserved
loop-leaf-preserved c =
    set_one (has_leaf (Some c.args.part)) c.args.table.now.items c.args.list.now c.loop-leaf.table.items c.loop-leaf.own c.loop-leaf.list c.take_least.new.self c.in-Some.leaf c.put_aside.new.table.items c.law_same_before.ensures.once
    c.loop-leaf.invariant c.in-Some.ensures.rest.0 (sym c.has.ensures ∙ c.if-has.false) c.put_aside.ensures

pub returns-clause-ok : goal.returns-clause-ok
returns-clause-ok c =
    ended (has_leaf (Some c.args.part)) c.args.table.now.items c.args.list.now c.loop-leaf.table.items c.loop-leaf.own c.loop-leaf.list c.law_same_before.ensures.once c.loop-leaf.invariant c.in_default.ensures.least
