use Rattle.std.proofs.Common.{◌≡◌, refl, sym, subst, arith}
use Rattle.std.specs.Prelude.{true}
use Rattle.cfn_incidence.specs.Places.{ArePlaces, place_at}
use Rattle.cfn_due.specs.Dues.{waits}
use Rattle.cfn_due.proofs.Putting.{IsBeside, stays, none_put, more_put, put_one, near_end}
use Rattle.cfn_due.proofs.due.put_near.Goals as goal

pub put_beside-requires-clause-waits : goal.put_beside-requires-clause-waits
put_beside-requires-clause-waits c =
    stays c.put.new.self c.loop-place.queue _ c.args.x c.loop-place.invariant (subst (λ queue. waits queue c.args.x ≡ true) (sym c.put.ensures) ((put_one c.args.queue.now c.args.x).put c.args.x refl))

pub loop-place-init : goal.loop-place-init
loop-place-init c = none_put c.put.new.self (λ j. IsBeside c.args.network.now (place_at c.places-place-items.result.now j))

pub loop-place-preserved : goal.loop-place-preserved
loop-place-preserved c =
    more_put c.put.new.self c.loop-place.queue c.put_beside.new.queue (λ j. IsBeside c.args.network.now (place_at c.places-place-items.result.now j)) c.loop-place.place-index c.loop-place.invariant c.put_beside.ensures

pub returns : goal.returns
returns c =
    let places = c.places-place-items.result.now in
    near_end c.args.network.now c.args.x places c.args.queue.now c.put.new.self c.loop-place.queue c.loop-place.place-index (subst (λ N. ArePlaces N c.args.x places) c.requires.incidence c.places-place-items.ensures.places)
    (omega (arith, c.loop-place-test.false, c.loop-place.auto.place-index-end)) c.put.ensures c.loop-place.invariant
