use Rattle.cfn_derivation.proofs.Noting.{among_next, among_end}
use Rattle.cfn_derivation.proofs.notes.touch_around.Goals as goal

pub loop-place-preserved : goal.loop-place-preserved
loop-place-preserved c =
    among_next c.places-place-items.result.now c.args.touched.now c.loop-place.touched c.put.new.self c.loop-place.place-index c.loop-place.invariant c.put.ensures

pub returns : goal.returns
returns c =
    among_end c.args.incidence.now c.args.x c.places-place-items.result.now c.args.touched.now c.loop-place.touched c.loop-place.place-index c.places-place-items.ensures.places c.loop-place-test.false c.loop-place.invariant
