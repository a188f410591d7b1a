use Rattle.std.proofs.Common.{min, ap, ◌∙◌, arith}
use Rattle.cfn_branch.proofs.Seconds.{two_begin, two_next, all_two}
use Rattle.cfn_branch.proofs.choosing.second_least.Goals as goal

pub loop-i-init : goal.loop-i-init
loop-i-init c =
    let are = c.live-values.ensures in
    let two = c.requires.undecided in
    let counted = are.counted in
    two_begin c.args.store.now c.args.x c.live-values.result.now c.unary-one.result c.unary-other.result c.min-least.result c.max-second.result
    (c.unary-one.ensures (are.live 0 (omega (arith, two, counted))).1)
    (c.unary-other.ensures (are.live 1 (omega (arith, two, counted))).1)
    c.min-least.ensures c.max-second.ensures

pub loop-i-preserved : goal.loop-i-preserved
loop-i-preserved c =
    two_next c.args.store.now c.args.x c.live-values.result.now c.loop-i.i c.loop-i.least c.loop-i.second c.unary-cost.result c.min-least-in-loop-i.result c.min-second.result c.loop-i.invariant
    (c.unary-cost.ensures (c.live-values.ensures.live c.loop-i.i (omega (arith, c.loop-i-test.true))).1)
    c.min-least-in-loop-i.ensures (c.min-second.ensures ∙ ap (min c.loop-i.second) c.max.ensures)

pub returns : goal.returns
returns c =
    let two = c.requires.undecided in
    let counted = c.live-values.ensures.counted in
    let end = c.loop-i.auto.i-end (omega (arith, two, counted)) in
    all_two c.args.store.now c.args.x c.live-values.result.now c.loop-i.i c.loop-i.least c.loop-i.second c.live-values.ensures (omega (arith, c.loop-i-test.false)) end c.loop-i.invariant
