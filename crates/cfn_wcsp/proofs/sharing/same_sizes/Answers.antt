use Rattle.std.proofs.Common.{◌≡◌, length, sym, ◌∙◌, arith}
use Rattle.cfn_wcsp.proofs.SharedTables.{same_on, same_end}
use Rattle.cfn_wcsp.proofs.sharing.same_sizes.Goals as goal

pub returns-then-sizes-x : goal.returns-then-sizes-x
returns-then-sizes-x c =
    let long : length c.args.one.now ≡ length c.args.other.now = omega (arith, c.if-one-other.false) in
    sym (sym c.loop-place.invariant ∙ same_end c.args.sizes.now c.args.one.now c.args.other.now c.loop-place.place c.loop-place-test.true long c.if-sizes-x.true)

pub loop-place-preserved : goal.loop-place-preserved
loop-place-preserved c =
    let long : length c.args.one.now ≡ length c.args.other.now = omega (arith, c.if-one-other.false) in
    same_on c.args.sizes.now c.args.one.now c.args.other.now c.loop-place.place c.loop-place-test.true long c.if-sizes-x.false ∙ c.loop-place.invariant
