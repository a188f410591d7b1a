use Rattle.std.proofs.Common.{sym, ◌∙◌, subst, arith}
use Rattle.cfn_incidence.specs.Places.{place_at}
use Rattle.cfn_due.specs.Going.{ArePut}
use Rattle.cfn_due.proofs.Putting.{IsUpperOf, none_put, more_put, upper_put, lower_passed, uppers_end}
use Rattle.cfn_due.proofs.due.put_upper.Goals.{then-place-x, else-place-x}
use Rattle.cfn_due.proofs.due.put_upper.Goals as goal

pub loop-place-init : goal.loop-place-init
loop-place-init c = none_put c.args.queue.now (λ j. IsUpperOf c.args.x (place_at c.places-place-items.result.now j))

pub loop-place-preserved : goal.loop-place-preserved
loop-place-preserved c =
    let x = c.args.x in let n = c.loop-place.place-index in
    let p = place_at c.places-place-items.result.now n in
    more_put c.args.queue.now c.loop-place.queue c.if-place-x.queue (λ j. IsUpperOf x (place_at c.places-place-items.result.now j)) n c.loop-place.invariant
    (elim c.if-place-x.branch [
      | then-place-x w ↦ upper_put x p c.loop-place.queue c.if-place-x.queue w.if-place-x.true (w.queue-is ∙ w.put.ensures)
      | else-place-x w ↦ subst (λ queue. ArePut c.loop-place.queue queue (IsUpperOf x p)) (sym w.queue-is) (lower_passed x p c.loop-place.queue (let lower = w.if-place-x.false in omega (arith, lower)))
    ])

pub returns : goal.returns
returns c =
    uppers_end c.args.incidence.now c.args.x c.places-place-items.result.now c.args.queue.now c.loop-place.queue c.loop-place.place-index c.places-place-items.ensures.places
    (omega (arith, c.loop-place-test.false, c.loop-place.auto.place-index-end)) c.loop-place.invariant
