use Rattle.std.proofs.Common.{◌≡◌, ◌+◌, arith}
use Rattle.cfn_incidence.specs.Places.{place_at}
use Rattle.cfn_due.specs.Going.{IsOn}
use Rattle.cfn_due.proofs.Doubting.{IsAmong, doubted_none, doubted_then, doubted_more, among_next, on_among}
use Rattle.cfn_due.proofs.rests.Rests.doubt_on.Goals as goal

pub loop-place-init : goal.loop-place-init
loop-place-init c = doubted_none c.args.self.now (IsAmong c.places-place-items.result.now 0) (λ f i l is sure. let none = is.1 in omega (arith, none))

pub loop-place-preserved : goal.loop-place-preserved
loop-place-preserved c =
    let places = c.places-place-items.result.now in let n = c.loop-place.place-index in
    doubted_then c.args.self.now c.loop-place.self c.doubt.new.self (IsAmong places n) (λ f. (place_at places n).function ≡ f) (IsAmong places (n + 1))
    c.loop-place.invariant c.doubt.ensures (among_next places n)

pub returns : goal.returns
returns c =
    let places = c.places-place-items.result.now in
    doubted_more c.args.self.now c.loop-place.self (IsAmong places c.loop-place.place-index) (IsOn c.args.incidence.now c.args.x) c.loop-place.invariant
    (on_among c.args.incidence.now c.args.x places c.loop-place.place-index c.places-place-items.ensures.places (let t = c.loop-place-test.false in omega (arith, t)))
