use Rattle.std.proofs.Common.{◌≡◌, sym, subst}
use Rattle.cfn_due.specs.Going.{ArePut}
use Rattle.cfn_due.proofs.Putting.{put_one, other_put}
use Rattle.cfn_due.proofs.due.put_beside.Goals as goal

pub returns-else-place-x : goal.returns-else-place-x
returns-else-place-x c =
    other_put c.args.network.now c.args.x c.args.place c.args.queue.now c.put.new.self c.requires.stands c.if-place-x.false c.requires.waits
    (subst (λ queue. ArePut c.args.queue.now queue (λ y. c.args.place.other ≡ y)) (sym c.put.ensures) (put_one c.args.queue.now c.args.place.other))
