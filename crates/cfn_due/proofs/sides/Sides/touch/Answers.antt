use Rattle.std.proofs.Common.{arith}
use Rattle.cfn_due.specs.Going.{IsElsewhere}
use Rattle.cfn_due.proofs.Asking.{IsBeside, asked_none, asked_more, beside_more, beside_all}
use Rattle.cfn_due.proofs.sides.Sides.touch.Goals as goal

pub loop-place-init : goal.loop-place-init
loop-place-init c = asked_none c.args.incidence.now c.args.self.now (IsBeside c.places-place-items.result.now 0) (λ f i l two is. let none = is.within in omega (arith, none))

pub loop-place-preserved : goal.loop-place-preserved
loop-place-preserved c =
    beside_more c.args.incidence.now c.args.self.now c.loop-place.self c.doubt_other.new.self c.args.x c.places-place-items.result.now c.loop-place.place-index c.places-place-items.ensures.places c.requires.size c.loop-place-test.true
    c.loop-place.invariant c.doubt_other.ensures

pub returns : goal.returns
returns c =
    asked_more c.args.incidence.now c.args.self.now c.loop-place.self (IsBeside c.places-place-items.result.now c.loop-place.place-index) (IsElsewhere c.args.incidence.now c.args.x) c.loop-place.invariant
    (beside_all c.args.incidence.now c.args.x c.places-place-items.result.now c.loop-place.place-index c.places-place-items.ensures.places (let t = c.loop-place-test.false in omega (arith, t)))
