use Rattle.std.proofs.Common.{sym, subst}
use Rattle.cfn_due.specs.Dues.{Dues}
use Rattle.cfn_due.specs.Going.{IsUpper, ArePut}
use Rattle.cfn_due.specs.Remembered.{IsLast}
use Rattle.cfn_due.proofs.Noting.{none_goes, last_stays}
use Rattle.cfn_due.proofs.due.Due.rise.Goals as goal

pub returns-clause-last : goal.returns-clause-last
returns-clause-last c =
    let directed = subst (λ P. ArePut c.self.inside.directed c.put_upper.new.queue (IsUpper P c.args.x)) c.requires.incidence c.put_upper.ensures in
    let existing = c.put_near.ensures in
    let now : Dues = record { arcs = c.self.inside.arcs; directed = c.put_upper.new.queue; existing = c.put_near.new.queue } in
    let was = last_stays c.args.network.now c.args.last.now (record { arcs = c.self.inside.arcs; directed = c.self.inside.directed; existing = c.self.inside.existing }) now _ _ _ (none_goes c.self.inside.arcs) directed existing
    (subst (IsLast c.args.network.now c.args.last.now) (sym c.self.view_is) c.requires.last) in
    record { risen = (directed.put, existing.put); lost = was.lost; changed = was.changed }
