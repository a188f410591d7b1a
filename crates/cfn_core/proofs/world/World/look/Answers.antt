use Rattle.std.proofs.Common.{◌≡◌, refl, ap, sym, ◌∙◌, subst}
use Rattle.cfn_core.specs.Actions.{Acts, Look, Seen}
use Rattle.cfn_core.specs.Machine.{Machine, world_of, seat_of}
use Rattle.cfn_core.proofs.Insides.{value, viewed}
use Rattle.cfn_core.proofs.Seating.{look_acts, each_set, each_at, seat_in}
use Rattle.cfn_core.proofs.world.World.look.Goals as goal

pub invariant_of-self : goal.invariant_of-self
invariant_of-self c =
    let m = value c.self.inside in
    let seats = c.self.inside.seats.items in
    let found = c.if-not-is_there.ensures.there refl in
    let at = seat_in seats c.as_slice.result.now c.args.worker found.0 c.as_slice.ensures.value found.1 in
    let is = c.set_seen.ensures found.0 at in
    let acts = look_acts m seats refl c.args.worker found.0 at found.2 c.set_seen.new.seats.items is in
    viewed m _ c.self.inside.best c.self.inside.best seats c.set_seen.new.seats.items (Look c.args.worker) (Seen m.word) c.self.invariant tt acts refl refl c.self.invariant.own
    (subst (λ l. Rattle.std.specs.List.AllByRecursion (Rattle.cfn_core.specs.Machine.IsSeatOf m.network) l) (sym is) (each_set m.network seats c.args.worker _ c.self.invariant.each (each_at m.network seats c.args.worker found.0 c.self.invariant.each at)))

pub returns-clause-acts : goal.returns-clause-acts
returns-clause-acts c =
    let m = value c.self.inside in
    let seats = c.self.inside.seats.items in
    let found = c.if-not-is_there.ensures.there refl in
    let at = seat_in seats c.as_slice.result.now c.args.worker found.0 c.as_slice.ensures.value found.1 in
    let acts = look_acts m seats refl c.args.worker found.0 at found.2 c.set_seen.new.seats.items (c.set_seen.ensures found.0 at) in
    subst (λ (old : Machine). Acts old.network (world_of old) (Look c.args.worker) (Seen m.word) (world_of (record m { views = Rattle.std.proofs.Common.map seat_of c.set_seen.new.seats.items }))) c.self.view_is acts
