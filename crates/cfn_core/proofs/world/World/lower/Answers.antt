use Rattle.std.proofs.Common.{◌≡◌, refl, ap, min, map, sym, ◌∙◌, subst}
use Rattle.std.specs.List.{AllByRecursion}
use Rattle.cfn_machine.specs.Pool.{price}
use Rattle.cfn_core.specs.Actions.{Acts, Lower, Seen}
use Rattle.cfn_core.specs.Machine.{Machine, world_of, seat_of, found_of, IsSeatOf}
use Rattle.cfn_core.proofs.Insides.{value, viewed}
use Rattle.cfn_core.proofs.Seating.{lower_acts, each_set, each_at, seat_in, price_is, brought}
use Rattle.cfn_core.proofs.world.World.lower.Goals as goal

pub invariant_of-self : goal.invariant_of-self
invariant_of-self c =
    let m = value c.self.inside in
    let seats = c.self.inside.seats.items in
    let scored = c.args.found.now in
    let found = c.if-not-is_there.ensures.there refl in
    let at = seat_in seats c.as_slice.result.now c.args.worker found.0 c.as_slice.ensures.value found.1 in
    let offered = c.offer.ensures found.0 at in
    let own : scored.network ≡ m.network = c.requires ∙ ap (λ (n : Machine). n.network) (sym c.self.view_is) in
    let least : c.min-word.result ≡ min m.word (price m.network (found_of scored.held)) = c.min-word.ensures ∙ ap (min m.word) (c.price.ensures ∙ price_is scored.network scored.held c.law_priced.ensures ∙ ap (λ P. price P (found_of scored.held)) own) in
    let acts = lower_acts m seats refl c.args.worker found.0 at found.2 scored c.min-word.result offered.0 c.offer.new.seats.items own least offered.1 offered.2 in
    viewed m _ c.self.inside.best c.self.inside.best seats c.offer.new.seats.items (Lower c.args.worker (found_of scored.held)) (Seen c.min-word.result) c.self.invariant
    (brought m.network scored.network scored.held own c.law_priced.ensures) acts refl refl c.self.invariant.own
    (subst (λ l. AllByRecursion (IsSeatOf m.network) l) (sym offered.1) (each_set m.network seats c.args.worker offered.0 c.self.invariant.each (offered.2.network ∙ each_at m.network seats c.args.worker found.0 c.self.invariant.each at)))

pub returns-clause-acts : goal.returns-clause-acts
returns-clause-acts c =
    let m = value c.self.inside in
    let seats = c.self.inside.seats.items in
    let scored = c.args.found.now in
    let found = c.if-not-is_there.ensures.there refl in
    let at = seat_in seats c.as_slice.result.now c.args.worker found.0 c.as_slice.ensures.value found.1 in
    let offered = c.offer.ensures found.0 at in
    let own : scored.network ≡ m.network = c.requires ∙ ap (λ (n : Machine). n.network) (sym c.self.view_is) in
    let least : c.min-word.result ≡ min m.word (price m.network (found_of scored.held)) = c.min-word.ensures ∙ ap (min m.word) (c.price.ensures ∙ price_is scored.network scored.held c.law_priced.ensures ∙ ap (λ P. price P (found_of scored.held)) own) in
    let acts = lower_acts m seats refl c.args.worker found.0 at found.2 scored c.min-word.result offered.0 c.offer.new.seats.items own least offered.1 offered.2 in
    subst (λ (old : Machine). Acts old.network (world_of old) (Lower c.args.worker (found_of scored.held)) (Seen c.min-word.result) (world_of (record m { word = c.min-word.result; views = map seat_of c.offer.new.seats.items }))) c.self.view_is acts
