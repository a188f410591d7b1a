use Rattle.cfn_rows.proofs.Making.{made}
use Rattle.cfn_rows.proofs.live.LiveSets.make.Goals as goal

pub invariant_of-result : goal.invariant_of-result
invariant_of-result c =
    rw (c.in_ok-from_slice.ensures.items, c.new.ensures.items, c.new-2.ensures)
    (made c.in_ok-orders.field-0 c.in_ok-orders-2.field-0 c.args.sizes.now c.in_ok-orders.ensures.sizes c.in_ok-orders-2.ensures.sizes c.in_ok-orders.ensures.places c.in_ok-orders-2.ensures.places)
