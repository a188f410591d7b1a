use Rattle.std.proofs.Common.{◌≡◌, ◌+◌, refl, ap, ap₂, min, map, sym, ◌∙◌, subst}
use Rattle.std.specs.List.{AllByRecursion}
use Rattle.cfn_model.specs.Network.{Network}
use Rattle.cfn_machine.specs.Pool.{View, cheaper}
use Rattle.cfn_core.specs.declared.seat.Seat.{Seat}
use Rattle.cfn_core.specs.Actions.{Acts, Meet, Done}
use Rattle.cfn_core.specs.Machine.{Machine, world_of, seat_of, found_of, IsSeatOf}
use Rattle.cfn_core.proofs.Insides.{value, viewed}
use Rattle.cfn_core.proofs.Seating.{meet_acts, each_set, each_at, seat_in, seat_read}
use Rattle.cfn_core.proofs.world.World.meet.Goals as goal

pub invariant_of-self : goal.invariant_of-self
invariant_of-self c =
    let m = value c.self.inside in
    let seats = c.self.inside.seats.items in
    let found = c.if-not-is_there.ensures.there refl in
    let at = seat_in seats c.as_slice.result.now c.args.worker found.0 c.as_slice.ensures.value found.1 in
    let same : c.index-seat.result.now ≡ found.0 = seat_read seats c.args.worker found.0 c.index-seat.result.now at c.index-seat.ensures in
    let is = c.set_met.ensures found.0 at in
    let best = c.keep_cheaper.ensures.found ∙ ap₂ (λ (P : Network) (s : Seat). cheaper P m.view.best (found_of s.best.held)) c.self.invariant.own same in
    let view : View = record { best = found_of c.keep_cheaper.new.best.held; seen = c.min-self-inside.result; shares = m.view.shares + 1 } in
    let joins : view ≡ record { best = cheaper m.network m.view.best (found_of found.0.best.held); seen = min m.view.seen found.0.seen; shares = m.view.shares + 1 } =
    ap₂ (λ b s. record { best = b; seen = s; shares = m.view.shares + 1 }) best (c.min-self-inside.ensures ∙ ap (λ (s : Seat). min m.view.seen s.seen) same) in
    let acts = meet_acts m seats refl c.args.worker found.0 at found.2 view c.set_met.new.seats.items joins is in
    viewed m _ c.self.inside.best c.keep_cheaper.new.best seats c.set_met.new.seats.items (Meet c.args.worker) Done c.self.invariant tt acts refl refl (c.keep_cheaper.ensures.network ∙ c.self.invariant.own)
    (subst (λ l. AllByRecursion (IsSeatOf m.network) l) (sym is) (each_set m.network seats c.args.worker _ c.self.invariant.each (each_at m.network seats c.args.worker found.0 c.self.invariant.each at)))

pub returns-clause-acts : goal.returns-clause-acts
returns-clause-acts c =
    let m = value c.self.inside in
    let seats = c.self.inside.seats.items in
    let found = c.if-not-is_there.ensures.there refl in
    let at = seat_in seats c.as_slice.result.now c.args.worker found.0 c.as_slice.ensures.value found.1 in
    let same : c.index-seat.result.now ≡ found.0 = seat_read seats c.args.worker found.0 c.index-seat.result.now at c.index-seat.ensures in
    let is = c.set_met.ensures found.0 at in
    let best = c.keep_cheaper.ensures.found ∙ ap₂ (λ (P : Network) (s : Seat). cheaper P m.view.best (found_of s.best.held)) c.self.invariant.own same in
    let view : View = record { best = found_of c.keep_cheaper.new.best.held; seen = c.min-self-inside.result; shares = m.view.shares + 1 } in
    let joins : view ≡ record { best = cheaper m.network m.view.best (found_of found.0.best.held); seen = min m.view.seen found.0.seen; shares = m.view.shares + 1 } =
    ap₂ (λ b s. record { best = b; seen = s; shares = m.view.shares + 1 }) best (c.min-self-inside.ensures ∙ ap (λ (s : Seat). min m.view.seen s.seen) same) in
    let acts = meet_acts m seats refl c.args.worker found.0 at found.2 view c.set_met.new.seats.items joins is in
    subst (λ (old : Machine). Acts old.network (world_of old) (Meet c.args.worker) Done (world_of (record m { view = view; views = map seat_of c.set_met.new.seats.items }))) c.self.view_is acts
