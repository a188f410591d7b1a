-- What the views of the workers become where one of them changes.
use Rattle.std.proofs.Common.{◌≡◌, ℕ, zero, suc, ◌+◌, List, [], ◌∷◌, ◌++◌, length, map, get_or, refl, sym, ap, ap₂, ◌∙◌, subst, true, false, min, Option, Some, None, MatchOption, if◌then◌else◌, arith}
use Rattle.std.proofs.lemmas.List.{get_or-map, get_or_read, map-set}
use Rattle.std.specs.Prelude.{slice_set}
use Rattle.std.specs.List.{AllByRecursion}
use Rattle.cfn_model.specs.Network.{Network, Fits}
use Rattle.cfn_model.specs.Certificate.{Solution, threshold_of}
use Rattle.cfn_net.specs.Scoring.{Scoring, IsPriced}
use Rattle.cfn_machine.specs.Pool.{View, price, cheaper, KeepsFitting}
use Rattle.cfn_core.specs.declared.seat.Seat.{Seat}
use Rattle.cfn_core.specs.World.{World, view_at}
use Rattle.cfn_core.specs.Actions.{Reply, Idle, Seen, Noted, Done, Look, Lower, Note, Meet, Answers, Acts, looked, lowered, noted, met}
use Rattle.cfn_core.specs.Machine.{Machine, world_of, found_of, seat_of, IsSeat, IsOffered, IsSeatOf}

view_in : Seat → View
view_in seat = record { best = found_of seat.best.held; seen = seat.seen; shares = 1 }

seen_as : (seat : Seat) → seat.met ≡ false → seat_of seat ≡ Some (view_in seat)
unfolding view_in
seen_as seat unmet = ap (λ b. if b then None else Some (view_in seat)) unmet

ended_as : (seat : Seat) → seat.met ≡ true → seat_of seat ≡ None
unfolding view_in
ended_as seat ended = ap (λ b. if b then None else Some (view_in seat)) ended

-- each seat but one stays
pub each_set : (P : Network) (seats : List Seat) (i : ℕ) (new : Seat) → AllByRecursion (IsSeatOf P) seats → IsSeatOf P new → AllByRecursion (IsSeatOf P) (slice_set seats i new)
each_set P [] i new each own = each
each_set P (seat ∷ seats) zero new each own = (own, each.1)
each_set P (seat ∷ seats) (suc i) new each own = (each.0, each_set P seats i new each.1 own)

pub each_at : (P : Network) (seats : List Seat) (i : ℕ) (seat : Seat) → AllByRecursion (IsSeatOf P) seats → IsSeat seats i seat → IsSeatOf P seat
each_at P [] i seat each at = absurd (omega (arith, at.there))
each_at P (first ∷ seats) zero seat each at = subst (IsSeatOf P) at.is each.0
each_at P (first ∷ seats) (suc i) seat each at = each_at P seats i seat each.1 (record { there = omega (arith, at.there); is = at.is })

pub idle : (P : Network) (w : World) (i : ℕ) (X : View → Type 0) → view_at w.views i ≡ None → MatchOption (view_at w.views i) (Answers Idle w Idle w) X
idle P w i X none = subst (λ o. MatchOption o (Answers Idle w Idle w) X) (sym none) (record { reply = refl; world = refl })

module _ (m : Machine) (seats : List Seat) (is : m.views ≡ map seat_of seats) (i : ℕ) (seat : Seat) (at : IsSeat seats i seat) (unmet : seat.met ≡ false) where
  here : view_at m.views i ≡ Some (view_in seat)
  here = ap (λ v. view_at v i) is ∙ get_or-map seat_of seats i seat None at.there ∙ ap seat_of at.is ∙ seen_as seat unmet

  changed : (new : Seat) → map seat_of (slice_set seats i new) ≡ slice_set m.views i (seat_of new)
  changed new = map-set seat_of seats i new ∙ ap (λ v. slice_set v i (seat_of new)) (sym is)

  by_view : (w : World) (r : Reply) (new : World) (due : View → Reply) (left : View → World) → w.views ≡ m.views → Answers (due (view_in seat)) (left (view_in seat)) r new →
      MatchOption (view_at w.views i) (Answers Idle w r new) (λ view. Answers (due view) (left view) r new)
  by_view w r new due left same answers = subst (λ o. MatchOption o (Answers Idle w r new) (λ view. Answers (due view) (left view) r new)) (sym (ap (λ v. view_at v i) same ∙ here)) answers

  pub look_acts : (seats' : List Seat) → seats' ≡ slice_set seats i (record seat { seen = m.word }) → Acts m.network (world_of m) (Look i) (Seen m.word) (world_of (record m { views = map seat_of seats' }))
  unfolding view_in
  look_acts seats' new = by_view (world_of m) (Seen m.word) _ (λ view. Seen m.word) (λ view. looked (world_of m) i view) refl (record {
    reply = refl;
    world = ap (λ v. world_of (record m { views = v })) (ap (map seat_of) new ∙ changed (record seat { seen = m.word }) ∙ ap (slice_set m.views i) (seen_as (record seat { seen = m.word }) unmet));
  })

  pub lower_acts : (found : Scoring) (word : ℕ) (new : Seat) (seats' : List Seat) → found.network ≡ m.network → word ≡ min m.word (price m.network (found_of found.held)) → seats' ≡ slice_set seats i new → IsOffered seat found word new →
      Acts m.network (world_of m) (Lower i (found_of found.held)) (Seen word) (world_of (record m { word = word; views = map seat_of seats' }))
  unfolding view_in
  lower_acts found word new seats' own least is' offered =
      let best : found_of new.best.held ≡ cheaper m.network (found_of seat.best.held) (found_of found.held) = offered.best ∙ ap (λ P. cheaper P (found_of seat.best.held) (found_of found.held)) own in
      let view : seat_of new ≡ Some (record { best = cheaper m.network (found_of seat.best.held) (found_of found.held); seen = min m.word (price m.network (found_of found.held)); shares = 1 }) =
      seen_as new (offered.met ∙ unmet) ∙ ap₂ (λ b s. Some (record { best = b; seen = s; shares = 1 })) best (offered.seen ∙ least) in
      by_view (world_of m) (Seen word) _ (λ v. Seen (min m.word (price m.network (found_of found.held)))) (λ v. lowered m.network (world_of m) i (found_of found.held) v) refl (record {
        reply = ap Seen least;
        world = ap₂ (λ w v. world_of (record m { word = w; views = v })) least (ap (map seat_of) is' ∙ changed new ∙ ap (slice_set m.views i) view);
      })

  pub note_acts : (notes : List (Option ℕ)) → notes ≡ m.notes ++ Some seat.seen ∷ [] → Acts m.network (world_of m) (Note i) (Noted (length m.notes)) (world_of (record m { notes = notes }))
  unfolding view_in
  note_acts notes is' = by_view (world_of m) (Noted (length m.notes)) _ (λ v. Noted (length m.notes)) (λ v. noted (world_of m) v) refl (record {
    reply = refl;
    world = ap (λ n. world_of (record m { notes = n })) is';
  })

  pub meet_acts : (view : View) (seats' : List Seat) → view ≡ record { best = cheaper m.network m.view.best (found_of seat.best.held); seen = min m.view.seen seat.seen; shares = m.view.shares + 1 } → seats' ≡ slice_set seats i (record seat { met = true }) →
      Acts m.network (world_of m) (Meet i) Done (world_of (record m { view = view; views = map seat_of seats' }))
  unfolding view_in
  meet_acts view seats' joins is' = by_view (world_of m) Done _ (λ v. Done) (λ v. met m.network (world_of m) i v) refl (record {
    reply = refl;
    world = ap₂ (λ u v. world_of (record m { view = u; views = v })) joins (ap (map seat_of) is' ∙ changed (record seat { met = true }) ∙ ap (slice_set m.views i) (ended_as (record seat { met = true }) refl));
  })

-- the price of what is held
pub price_is : (P : Network) (held : Option Solution) → IsPriced P held → threshold_of P.upper held ≡ price P (found_of held)
price_is P None priced = refl
price_is P (Some held) priced = sym priced.1

-- a seat that is there, in a list that is the same, and one that was read there
pub seat_in : (seats same : List Seat) (i : ℕ) (seat : Seat) → same ≡ seats → IsSeat same i seat → IsSeat seats i seat
seat_in seats same i seat is at = subst (λ l. IsSeat l i seat) is at

pub seat_read : (seats : List Seat) (i : ℕ) (seat read : Seat) → IsSeat seats i seat → read ≡ get_or seats i read → read ≡ seat
seat_read seats i seat read at is = get_or_read seats i read at.there is seat ∙ at.is

-- what is held fits the network that it is of
pub brought : (P Q : Network) (held : Option Solution) → Q ≡ P → IsPriced Q held → KeepsFitting P (found_of held)
brought P Q None same priced = tt
brought P Q (Some held) same priced = subst (λ N. Fits N.sizes held.values) same priced.0
