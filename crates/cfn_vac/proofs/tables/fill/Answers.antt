use Rattle.std.proofs.Common.{subst, sym, arith}
use Rattle.cfn_model.specs.Steps.{IsValue}
use Rattle.cfn_vac.proofs.Numbers.{IsFilling, within, filling_none, filling_more, filled}
use Rattle.cfn_vac.proofs.tables.fill.Goals as goal

pub set-requires : goal.set-requires
set-requires c =
    let v = c.loop-value.invariant in
    let value : IsValue c.args.network.now c.args.x c.loop-value.value = record { variable = c.requires.variable; value = (let e = c.size-value-end.ensures in let t = c.loop-value-test.true in omega (arith, e, t)) } in
    within c.args.network.now c.loop-value.rows c.args.x c.loop-value.value v.shape value

pub loop-value-init : goal.loop-value-init
loop-value-init c = filling_none c.args.network.now c.args.x c.args.number c.args.rows.now c.requires.shape

pub loop-value-preserved : goal.loop-value-preserved
loop-value-preserved c =
    let value : IsValue c.args.network.now c.args.x c.loop-value.value = record { variable = c.requires.variable; value = (let e = c.size-value-end.ensures in let t = c.loop-value-test.true in omega (arith, e, t)) } in
    subst (IsFilling c.args.network.now c.args.x c.args.number _ c.args.rows.now) (sym c.set.ensures)
    (filling_more c.args.network.now c.args.x c.args.number c.loop-value.value c.args.rows.now c.loop-value.rows c.loop-value.invariant value)

pub returns : goal.returns
returns c = filled c.args.network.now c.args.x c.args.number c.loop-value.value c.args.rows.now c.loop-value.rows c.loop-value.invariant (let e = c.size-value-end.ensures in let t = c.loop-value-test.false in omega (arith, e, t))
