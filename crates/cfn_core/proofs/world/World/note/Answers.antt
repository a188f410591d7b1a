use Rattle.std.proofs.Common.{◌≡◌, ◌++◌, [], ◌∷◌, Some, length, refl, ap, ◌∙◌}
use Rattle.cfn_core.specs.declared.seat.Seat.{Seat}
use Rattle.cfn_core.specs.Actions.{Note, Noted}
use Rattle.cfn_core.proofs.Insides.{value, viewed}
use Rattle.cfn_core.proofs.Seating.{note_acts, seat_in, seat_read}
use Rattle.cfn_core.proofs.world.World.note.Goals as goal

pub invariant_of-self-2 : goal.invariant_of-self-2
invariant_of-self-2 c =
    let m = value c.self.inside in
    let seats = c.self.inside.seats.items in
    let found = c.if-not-is_there.ensures.there refl in
    let at = seat_in seats c.as_slice.result.now c.args.worker found.0 c.as_slice.ensures.value found.1 in
    let same : c.index.result.now ≡ found.0 = seat_read seats c.args.worker found.0 c.index.result.now at c.index.ensures in
    let notes = c.in_ok-push.ensures.items ∙ ap (λ (s : Seat). m.notes ++ Some s.seen ∷ []) same in
    let acts = note_acts m seats refl c.args.worker found.0 at found.2 c.push.new.self.items notes in
    viewed m _ c.self.inside.best c.self.inside.best seats seats (Note c.args.worker) (Noted (length m.notes)) c.self.invariant tt acts refl refl c.self.invariant.own c.self.invariant.each
