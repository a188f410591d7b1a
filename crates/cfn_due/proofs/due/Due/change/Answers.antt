use Rattle.std.proofs.Common.{◌≡◌, sym, subst}
use Rattle.cfn_due.specs.Dues.{Dues}
use Rattle.cfn_due.specs.Going.{ArePut}
use Rattle.cfn_due.specs.Remembered.{IsLast}
use Rattle.cfn_due.proofs.Noting.{put_is, last_stays}
use Rattle.cfn_due.proofs.due.Due.change.Goals as goal

pub returns-clause-arcs : goal.returns-clause-arcs
returns-clause-arcs c =
    subst (λ (s : Dues). ArePut s.arcs c.put.new.self (λ g. c.args.f ≡ g)) c.self.view_is (put_is c.self.inside.arcs c.put.new.self c.args.f c.put.ensures)

pub returns-clause-directed : goal.returns-clause-directed
returns-clause-directed c =
    subst (λ (s : Dues). ArePut s.directed c.put-2.new.self (λ g. c.args.f ≡ g)) c.self.view_is (put_is c.self.inside.directed c.put-2.new.self c.args.f c.put-2.ensures)

pub returns-clause-last : goal.returns-clause-last
returns-clause-last c =
    let arcs = put_is c.self.inside.arcs c.put.new.self c.args.f c.put.ensures in
    let directed = put_is c.self.inside.directed c.put-2.new.self c.args.f c.put-2.ensures in
    let existing = c.put_scope.ensures in
    let now : Dues = record { arcs = c.put.new.self; directed = c.put-2.new.self; existing = c.put_scope.new.queue } in
    let was = last_stays c.args.network.now c.args.last.now (record { arcs = c.self.inside.arcs; directed = c.self.inside.directed; existing = c.self.inside.existing }) now _ _ _ arcs directed existing
    (subst (IsLast c.args.network.now c.args.last.now) (sym c.self.view_is) c.requires.last) in
    record { risen = was.risen; lost = was.lost; changed = (arcs.put, directed.put, existing.put) }
