use Rattle.std.proofs.Common.{sym, ◌∙◌, subst, arith}
use Rattle.cfn_incidence.specs.Places.{place_at}
use Rattle.cfn_due.specs.Going.{ArePut}
use Rattle.cfn_due.proofs.Putting.{IsOfPlace, none_put, more_put, put_one, functions_end}
use Rattle.cfn_due.proofs.due.put_functions.Goals as goal

pub put-requires : goal.put-requires
put-requires c =
    let there = (c.places-place-items.ensures.places.stands c.loop-place.place-index c.loop-place-test.true).function in
    let size = c.loop-place.invariant.size ∙ c.requires.size in
    omega (arith, there, size)

pub loop-place-init : goal.loop-place-init
loop-place-init c = none_put c.args.queue.now (λ j. IsOfPlace (place_at c.places-place-items.result.now j))

pub loop-place-preserved : goal.loop-place-preserved
loop-place-preserved c =
    let places = c.places-place-items.result.now in let n = c.loop-place.place-index in
    more_put c.args.queue.now c.loop-place.queue c.put.new.self (λ j. IsOfPlace (place_at places j)) n c.loop-place.invariant
    (subst (λ queue. ArePut c.loop-place.queue queue (IsOfPlace (place_at places n))) (sym c.put.ensures) (put_one c.loop-place.queue (place_at places n).function))

pub returns : goal.returns
returns c =
    functions_end c.args.incidence.now c.args.x c.places-place-items.result.now c.args.queue.now c.loop-place.queue c.loop-place.place-index c.places-place-items.ensures.places
    (omega (arith, c.loop-place-test.false, c.loop-place.auto.place-index-end)) c.loop-place.invariant
