use Rattle.std.proofs.Common.{sym, subst}
use Rattle.cfn_due.specs.Dues.{Dues}
use Rattle.cfn_due.specs.Going.{IsOn, ArePut}
use Rattle.cfn_due.specs.Remembered.{IsLast}
use Rattle.cfn_due.proofs.Noting.{none_goes, last_stays}
use Rattle.cfn_due.proofs.due.Due.lose.Goals as goal

pub returns-clause-last : goal.returns-clause-last
returns-clause-last c =
    let arcs = subst (λ P. ArePut c.self.inside.arcs c.put_functions.new.queue (IsOn P c.args.x)) c.requires.incidence c.put_functions.ensures in
    let now : Dues = record { arcs = c.put_functions.new.queue; directed = c.self.inside.directed; existing = c.self.inside.existing } in
    let was = last_stays c.args.network.now c.rise.new.last (record { arcs = c.self.inside.arcs; directed = c.self.inside.directed; existing = c.self.inside.existing }) now _ _ _ arcs (none_goes c.self.inside.directed) (none_goes c.self.inside.existing)
    (subst (IsLast c.args.network.now c.rise.new.last) (sym c.self.view_is) c.rise.ensures.last) in
    record { risen = was.risen; lost = arcs.put; changed = was.changed }
