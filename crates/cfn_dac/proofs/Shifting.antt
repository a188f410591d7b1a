-- What steps through a pair's function leave as it was.
use Rattle.std.proofs.Common.{◌≡◌, ◌⊎◌, ℕ, ◌+◌, ◌<◌, ◌≤◌, inl, inr, List, ◌∷◌, refl, sym, ap, ◌∙◌, subst, arith}
use Rattle.std.proofs.lemmas.Bool.{cases_eq}
use Rattle.std.proofs.lemmas.Int.{ints}
use Rattle.std.specs.Prelude.{ℤ, pos, neg_ℤ, ◌+ℤ◌, ◌≤ℤ◌, ◌<ℤ◌, slice_index, IsTrue}
use Rattle.cfn_model.specs.declared.step.Step.TheVariants.{Project, Extend}
use Rattle.cfn_model.specs.declared.step.Event.{Event}
use Rattle.cfn_model.specs.declared.step.Event.TheVariants.{Did}
use Rattle.cfn_model.specs.Network.{Network}
use Rattle.cfn_model.specs.Sums.{floor, unary, residual, is_live}
use Rattle.cfn_model.specs.Steps.{IsPlace}
use Rattle.cfn_model.proofs.CallerLemmas.{tuple_fewer}
use Rattle.cfn_consistency.specs.Consistency.{HasFullSupport}
use Rattle.cfn_gain.proofs.CallerLemmas.{tuple_kept, residual_taken}
use Rattle.cfn_dac.specs.declared.pair.Pair.{Pair}
use Rattle.cfn_dac.specs.Full.{AreFullBelow, first_of, second_of, total}
use Rattle.cfn_dac.specs.Moves.{IsLiveTuple, Trims, KeepsCheap, Reaches}
use Rattle.cfn_dac.specs.Shifts.{Shifts, AreStill, AreHeld, AreReached, SomeLacks}
use Rattle.cfn_dac.proofs.Costs.{residual_projected, residual_extended, residual_kept, unary_kept, unary_projected, when_both, when_apart}

not_more : (t u v w : ℤ) → (t +ℤ u) ≡ (v +ℤ w) → w ≤ℤ u → t ≤ℤ v
not_more t u v w same le = omega (arith, ints, same, le)

-- in total a tuple costs no more than before
pub total_less : (P : Network) (pair : Pair) (k : ℕ) (before after : List Event) (tuple : List ℕ) → Shifts P pair k before after → total P after pair tuple ≤ℤ total P before pair tuple
total_less P pair k before after tuple s =
    not_more (total P after pair tuple) (unary P after (first_of P pair) (slice_index tuple pair.place)) (total P before pair tuple) (unary P before (first_of P pair) (slice_index tuple pair.place)) (s.whole tuple) (s.more (slice_index tuple pair.place))

same_total : (t u v w : ℤ) → (t +ℤ u) ≡ (v +ℤ w) → u ≡ w → t ≡ v
same_total t u v w same e = omega (arith, ints, same, e)

pub total_still : (P : Network) (pair : Pair) (k n : ℕ) (before after : List Event) (tuple : List ℕ) → Shifts P pair k before after → AreStill P pair before after n → n ≤ slice_index tuple pair.place → total P after pair tuple ≡ total P before pair tuple
total_still P pair k n before after tuple s still h =
    same_total (total P after pair tuple) (unary P after (first_of P pair) (slice_index tuple pair.place)) (total P before pair tuple) (unary P before (first_of P pair) (slice_index tuple pair.place)) (s.whole tuple) (still (slice_index tuple pair.place) h)

pub shifts_none : (P : Network) (pair : Pair) (k : ℕ) (history : List Event) → Shifts P pair k history history
shifts_none P pair k history = record {
  floors = refl;
  values = λ x a. refl;
  tuples = λ f tuple live. live;
  cheap = λ tuple live low. live.live;
  others = λ f tuple other. (refl, refl);
  aside = λ x a one two. refl;
  whole = λ tuple. refl;
  more = λ a. no_less (unary P history (first_of P pair) a);
}
  where
    no_less : (u : ℤ) → u ≤ℤ u
    no_less u = omega (arith, ints)

lower : (n m k : ℕ) (t u : ℤ) → m ≡ n → t ≤ℤ u → (pos n +ℤ u) <ℤ pos k → (pos m +ℤ t) <ℤ pos k
lower n m k t u same le h = omega (arith, ints, same, le, h)

no_more : (a b c : ℤ) → a ≤ℤ b → b ≤ℤ c → a ≤ℤ c
no_more a b c h g = omega (arith, ints, h, g)

pub shifts_then : (P : Network) (pair : Pair) (k : ℕ) (before mid after : List Event) → Shifts P pair k before mid → Shifts P pair k mid after → Shifts P pair k before after
shifts_then P pair k before mid after one two = record {
  floors = two.floors ∙ one.floors;
  values = λ x a. two.values x a ∙ one.values x a;
  tuples = λ f tuple live. one.tuples f tuple (two.tuples f tuple live);
  cheap = λ tuple live low. two.cheap tuple (record { fits = live.fits; live = one.cheap tuple live low })
      (lower (floor P before) (floor P mid) k (total P mid pair tuple) (total P before pair tuple) one.floors (total_less P pair k before mid tuple one) low);
  others = λ f tuple other. ((two.others f tuple other).0 ∙ (one.others f tuple other).0, (two.others f tuple other).1 ∙ (one.others f tuple other).1);
  aside = λ x a first second. two.aside x a first second ∙ one.aside x a first second;
  whole = λ tuple. two.whole tuple ∙ one.whole tuple;
  more = λ a. no_more (unary P before (first_of P pair) a) (unary P mid (first_of P pair) a) (unary P after (first_of P pair) a) (one.more a) (two.more a);
}

pub still_then : (P : Network) (pair : Pair) (before mid after : List Event) (n : ℕ) → AreStill P pair before mid n → AreStill P pair mid after n → AreStill P pair before after n
still_then P pair before mid after n one two a h = two a h ∙ one a h

-- tuples that are cut
under : (n k : ℕ) (r u : ℤ) → pos 0 ≤ℤ u → (pos n +ℤ (r +ℤ u)) <ℤ pos k → (pos n +ℤ r) <ℤ pos k
under n k r u low h = omega (arith, ints, low, h)

pub shifts_trimmed : (P : Network) (pair : Pair) (k : ℕ) (before after : List Event) → Trims P before after → KeepsCheap P before after k pair.function → ((tuple : List ℕ) → IsLiveTuple P before pair.function tuple → pos 0 ≤ℤ unary P before (second_of P pair) (slice_index tuple pair.other)) → Shifts P pair k before after
shifts_trimmed P pair k before after trims keeps low = record {
  floors = trims.floor;
  values = trims.values;
  tuples = trims.tuples;
  cheap = λ tuple live h. keeps.cheap tuple live
      (under (floor P before) k (residual P before pair.function tuple) (unary P before (second_of P pair) (slice_index tuple pair.other)) (low tuple live) h);
  others = λ f tuple other. (keeps.others f tuple other, trims.residual f tuple);
  aside = λ x a one two. trims.unary x a;
  whole = λ tuple. same_whole (residual P after pair.function tuple) (residual P before pair.function tuple) (unary P after (second_of P pair) (slice_index tuple pair.other)) (unary P before (second_of P pair) (slice_index tuple pair.other))
      (unary P after (first_of P pair) (slice_index tuple pair.place)) (unary P before (first_of P pair) (slice_index tuple pair.place)) (trims.residual pair.function tuple) (trims.unary (second_of P pair) (slice_index tuple pair.other)) (trims.unary (first_of P pair) (slice_index tuple pair.place));
  more = λ a. same_less (unary P before (first_of P pair) a) (unary P after (first_of P pair) a) (trims.unary (first_of P pair) a);
}
  where
    same_whole : (r s u v w z : ℤ) → r ≡ s → u ≡ v → w ≡ z → ((r +ℤ u) +ℤ w) ≡ ((s +ℤ v) +ℤ z)
    same_whole r s u v w z a b c = omega (arith, ints, a, b, c)

    same_less : (u v : ℤ) → v ≡ u → u ≤ℤ v
    same_less u v e = omega (arith, ints, e)

-- an extend from a second value
extended_unary : (P : Network) (history : List Event) (pair : Pair) (b m : ℕ) → unary P (Did (Extend pair.function pair.other b m) ∷ history) (second_of P pair) b ≡ neg_ℤ (pos m) +ℤ unary P history (second_of P pair) b
extended_unary P history pair b m = ap (λ z. z +ℤ unary P history (second_of P pair) b) (when_both (second_of P pair) (second_of P pair) b b (neg_ℤ (pos m)) refl refl)

moved_over : (r s u v w z : ℤ) (m : ℕ) → r ≡ s +ℤ pos m → u ≡ neg_ℤ (pos m) +ℤ v → w ≡ z → ((r +ℤ u) +ℤ w) ≡ ((s +ℤ v) +ℤ z)
moved_over r s u v w z m a b c = omega (arith, ints, a, b, c)

moved_none : (r s u v w z : ℤ) → r ≡ s → u ≡ v → w ≡ z → ((r +ℤ u) +ℤ w) ≡ ((s +ℤ v) +ℤ z)
moved_none r s u v w z a b c = omega (arith, ints, a, b, c)

pub still_extended : (P : Network) (history : List Event) (pair : Pair) (b m : ℕ) → (second_of P pair ≡ first_of P pair → ⊥) → AreStill P pair history (Did (Extend pair.function pair.other b m) ∷ history) 0
still_extended P history pair b m apart a h = unary_kept P history pair.function pair.other b m (first_of P pair) a (λ same e. apart same)

pub shifts_extended : (P : Network) (pair : Pair) (k : ℕ) (history : List Event) (b m : ℕ) → (second_of P pair ≡ first_of P pair → ⊥) → Shifts P pair k history (Did (Extend pair.function pair.other b m) ∷ history)
shifts_extended P pair k history b m apart = record {
  floors = omega arith;
  values = λ x a. refl;
  tuples = λ f tuple live. tuple_fewer P event history f tuple live;
  cheap = λ tuple live low. tuple_kept P event history pair.function tuple (λ x a. refl) refl ∙ live.live;
  others = λ f tuple other. (tuple_kept P event history f tuple (λ x a. refl) refl, no_residual f tuple other);
  aside = λ x a one two. unary_kept P history pair.function pair.other b m x a (λ same e. two (sym same));
  whole = λ tuple. elim (cases_eq (slice_index tuple pair.other) b) [
    | inl e ↦
        moved_over (residual P (event ∷ history) pair.function tuple) (residual P history pair.function tuple)
        (unary P (event ∷ history) (second_of P pair) (slice_index tuple pair.other)) (unary P history (second_of P pair) (slice_index tuple pair.other))
        (unary P (event ∷ history) (first_of P pair) (slice_index tuple pair.place)) (unary P history (first_of P pair) (slice_index tuple pair.place)) m
        (residual_extended P history pair.function pair.other b m tuple e)
        (subst (λ c. unary P (event ∷ history) (second_of P pair) c ≡ neg_ℤ (pos m) +ℤ unary P history (second_of P pair) c) (sym e) (extended_unary P history pair b m))
        (still_extended P history pair b m apart (slice_index tuple pair.place) (omega arith))
    | inr d ↦
        moved_none (residual P (event ∷ history) pair.function tuple) (residual P history pair.function tuple)
        (unary P (event ∷ history) (second_of P pair) (slice_index tuple pair.other)) (unary P history (second_of P pair) (slice_index tuple pair.other))
        (unary P (event ∷ history) (first_of P pair) (slice_index tuple pair.place)) (unary P history (first_of P pair) (slice_index tuple pair.place))
        (residual_kept P history pair.function pair.other b m tuple d)
        (unary_kept P history pair.function pair.other b m (second_of P pair) (slice_index tuple pair.other) (λ same e. d (sym e)))
        (still_extended P history pair b m apart (slice_index tuple pair.place) (omega arith))
  ];
  more = λ a. same_less (unary P history (first_of P pair) a) (unary P (event ∷ history) (first_of P pair) a) (still_extended P history pair b m apart a (omega arith));
}
  where
    event : Event
    event = Did (Extend pair.function pair.other b m)

    same_less : (u v : ℤ) → v ≡ u → u ≤ℤ v
    same_less u v e = omega (arith, ints, e)

    no_residual : (f : ℕ) (tuple : List ℕ) → (f ≡ pair.function → ⊥) → residual P (event ∷ history) f tuple ≡ residual P history f tuple
    no_residual f tuple other = let w = when_apart pair.function f (slice_index tuple pair.other) b (pos m) (λ e d. other (sym e)) in omega (arith, ints, w)

-- a project to a first value
pub projected_unary : (P : Network) (history : List Event) (pair : Pair) (a m : ℕ) → unary P (Did (Project pair.function pair.place a m) ∷ history) (first_of P pair) a ≡ pos m +ℤ unary P history (first_of P pair) a
projected_unary P history pair a m = ap (λ z. z +ℤ unary P history (first_of P pair) a) (when_both (first_of P pair) (first_of P pair) a a (pos m) refl refl)

projected_kept : (P : Network) (history : List Event) (pair : Pair) (a m x b : ℕ) → (x ≡ first_of P pair → ⊥) → unary P (Did (Project pair.function pair.place a m) ∷ history) x b ≡ unary P history x b
projected_kept P history pair a m x b apart = let w = when_apart (first_of P pair) x a b (pos m) (λ e d. apart (sym e)) in omega (arith, ints, w)

pub still_projected : (P : Network) (history : List Event) (pair : Pair) (a m b : ℕ) → (a ≡ b → ⊥) → unary P (Did (Project pair.function pair.place a m) ∷ history) (first_of P pair) b ≡ unary P history (first_of P pair) b
still_projected P history pair a m b apart = unary_projected P history pair.function pair.place a m b apart

moved_down : (r s u v w z : ℤ) (m : ℕ) → r ≡ neg_ℤ (pos m) +ℤ s → u ≡ v → w ≡ pos m +ℤ z → ((r +ℤ u) +ℤ w) ≡ ((s +ℤ v) +ℤ z)
moved_down r s u v w z m a b c = omega (arith, ints, a, b, c)

pub shifts_projected : (P : Network) (pair : Pair) (k : ℕ) (history : List Event) (a m : ℕ) → (second_of P pair ≡ first_of P pair → ⊥) → Shifts P pair k history (Did (Project pair.function pair.place a m) ∷ history)
shifts_projected P pair k history a m apart = record {
  floors = omega arith;
  values = λ x b. refl;
  tuples = λ f tuple live. tuple_fewer P event history f tuple live;
  cheap = λ tuple live low. tuple_kept P event history pair.function tuple (λ x b. refl) refl ∙ live.live;
  others = λ f tuple other. (tuple_kept P event history f tuple (λ x b. refl) refl, no_residual f tuple other);
  aside = λ x b one two. projected_kept P history pair a m x b one;
  whole = λ tuple. elim (cases_eq (slice_index tuple pair.place) a) [
    | inl e ↦
        moved_down (residual P (event ∷ history) pair.function tuple) (residual P history pair.function tuple)
        (unary P (event ∷ history) (second_of P pair) (slice_index tuple pair.other)) (unary P history (second_of P pair) (slice_index tuple pair.other))
        (unary P (event ∷ history) (first_of P pair) (slice_index tuple pair.place)) (unary P history (first_of P pair) (slice_index tuple pair.place)) m
        (residual_taken P history pair.function pair.place a m tuple e)
        (projected_kept P history pair a m (second_of P pair) (slice_index tuple pair.other) apart)
        (subst (λ c. unary P (event ∷ history) (first_of P pair) c ≡ pos m +ℤ unary P history (first_of P pair) c) (sym e) (projected_unary P history pair a m))
    | inr d ↦
        moved_none (residual P (event ∷ history) pair.function tuple) (residual P history pair.function tuple)
        (unary P (event ∷ history) (second_of P pair) (slice_index tuple pair.other)) (unary P history (second_of P pair) (slice_index tuple pair.other))
        (unary P (event ∷ history) (first_of P pair) (slice_index tuple pair.place)) (unary P history (first_of P pair) (slice_index tuple pair.place))
        (residual_projected P history pair.function pair.place a m tuple d)
        (projected_kept P history pair a m (second_of P pair) (slice_index tuple pair.other) apart)
        (still_projected P history pair a m (slice_index tuple pair.place) (λ e. d (sym e)))
  ];
  more = λ b. elim (cases_eq a b) [
    | inl e ↦ subst (λ c. unary P history (first_of P pair) c ≤ℤ unary P (event ∷ history) (first_of P pair) c) e (adds_some (unary P history (first_of P pair) a) (unary P (event ∷ history) (first_of P pair) a) m (projected_unary P history pair a m))
    | inr d ↦ same_less (unary P history (first_of P pair) b) (unary P (event ∷ history) (first_of P pair) b) (still_projected P history pair a m b d)
  ];
}
  where
    event : Event
    event = Did (Project pair.function pair.place a m)

    same_less : (u v : ℤ) → v ≡ u → u ≤ℤ v
    same_less u v e = omega (arith, ints, e)

    adds_some : (u v : ℤ) (m : ℕ) → v ≡ pos m +ℤ u → u ≤ℤ v
    adds_some u v m e = omega (arith, ints, e)

    no_residual : (f : ℕ) (tuple : List ℕ) → (f ≡ pair.function → ⊥) → residual P (event ∷ history) f tuple ≡ residual P history f tuple
    no_residual f tuple other = let w = when_apart pair.function f (slice_index tuple pair.place) a (neg_ℤ (pos m)) (λ e d. other (sym e)) in omega (arith, ints, w)

-- what is held goes on being held where nothing is projected
pub held_on : (P : Network) (pair : Pair) (k n later : ℕ) (moves : List ℕ) (before after : List Event) → n ≤ later → Shifts P pair k before after → AreStill P pair before after later → AreHeld P before pair moves n → AreHeld P after pair moves later
held_on P pair k n later moves before after le s still held tuple live h =
    subst (λ z. pos (slice_index moves (slice_index tuple pair.place)) ≤ℤ z) (sym (total_still P pair k later before after tuple s still h))
    (held tuple (record { fits = live.fits; live = s.tuples pair.function tuple live.live }) (omega (arith, le, h)))

above_none : (z : ℤ) (m : ℕ) → 0 < m → pos m ≤ℤ z → z ≡ pos 0 → ⊥
above_none z m some le none = absurd (omega (arith, ints, some, le, none))

-- a value that is to get something has no full support
pub none_full : (P : Network) (history : List Event) (pair : Pair) (moves : List ℕ) (n a : ℕ) → AreHeld P history pair moves n → n ≤ a → 0 < slice_index moves a → HasFullSupport P history pair.function pair.place pair.other a → ⊥
none_full P history pair moves n a held le some full =
    above_none (total P history pair full.tuple) (slice_index moves a) some
    (subst (λ b. pos (slice_index moves b) ≤ℤ total P history pair full.tuple) full.at (held full.tuple (record { fits = full.fits; live = full.live }) (let at = full.at in omega (arith, at, le)))) full.free

pub some_lacks : (P : Network) (history : List Event) (pair : Pair) (moves : List ℕ) (n a : ℕ) → AreHeld P history pair moves n → IsPlace P pair.function pair.place a → n ≤ a → 0 < slice_index moves a → IsTrue (is_live history (first_of P pair) a) → SomeLacks P history pair
some_lacks P history pair moves n a held place le some live = record { value = a; place = place; live = live; none = none_full P history pair moves n a held le some }

-- reaching goes on
reaches_on : (P : Network) (pair : Pair) (k alpha a m : ℕ) (before after : List Event) → floor P before + alpha ≤ k → Shifts P pair k before after → unary P after (first_of P pair) a ≡ unary P before (first_of P pair) a → Reaches P before pair alpha a m → Reaches P after pair alpha a m
reaches_on P pair k alpha a m before after sum s still (inl le) = inl (subst (λ u. pos alpha ≤ℤ (u +ℤ pos m)) (sym still) le)
reaches_on P pair k alpha a m before after sum s still (inr (less, has)) = inr (
  less,
  record {
    tuple = has.tuple;
    picked = record { fits = has.picked.fits; value = has.picked.value; live = s.cheap has.tuple (record { fits = has.picked.fits; live = has.picked.live }) (fits_in (floor P before) alpha m k (total P before pair has.tuple) sum less has.is) };
    is = same_total (total P after pair has.tuple) (unary P after (first_of P pair) (slice_index has.tuple pair.place)) (total P before pair has.tuple) (unary P before (first_of P pair) (slice_index has.tuple pair.place)) (s.whole has.tuple)
        (subst (λ b. unary P after (first_of P pair) b ≡ unary P before (first_of P pair) b) (sym has.picked.value) still) ∙ has.is;
  },
)
  where
    fits_in : (n alpha m k : ℕ) (z : ℤ) → n + alpha ≤ k → m < alpha → z ≡ pos m → (pos n +ℤ z) <ℤ pos k
    fits_in n alpha m k z sum less is = omega (arith, ints, sum, less, is)

pub reached_on : (P : Network) (pair : Pair) (k alpha : ℕ) (moves : List ℕ) (before after : List Event) → floor P before + alpha ≤ k → Shifts P pair k before after → AreStill P pair before after 0 → AreReached P before pair alpha moves 0 → AreReached P after pair alpha moves 0
reached_on P pair k alpha moves before after sum s still are = record {
  done = λ a place live h. absurd (omega (arith, h));
  rest = λ a place live h. reaches_on P pair k alpha a (slice_index moves a) before after sum s (still a h) (are.rest a place (sym (s.values (first_of P pair) a) ∙ live) h);
}

-- a value that gets nothing has come where it is to come
pub reached_skip : (P : Network) (history : List Event) (pair : Pair) (alpha : ℕ) (moves : List ℕ) (n : ℕ) → slice_index moves n ≡ 0 → AreReached P history pair alpha moves n → AreReached P history pair alpha moves (n + 1)
reached_skip P history pair alpha moves n none are = record {
  done = λ a place live h. elim (cases_eq a n) [
    | inl e ↦ subst (Reaches P history pair alpha a) (ap (slice_index moves) e ∙ none) (are.rest a place live (omega (arith, e)))
    | inr d ↦ are.done a place live (omega (arith, h, d))
  ];
  rest = λ a place live h. are.rest a place live (omega (arith, h));
}

-- and one that gets its amount
pub reaches_projected : (P : Network) (pair : Pair) (k alpha a m : ℕ) (history : List Event) → floor P history + alpha ≤ k → (second_of P pair ≡ first_of P pair → ⊥) → Reaches P history pair alpha a m → Reaches P (Did (Project pair.function pair.place a m) ∷ history) pair alpha a 0
reaches_projected P pair k alpha a m history sum apart (inl le) = inl (comes alpha m (unary P history (first_of P pair) a) (unary P (Did (Project pair.function pair.place a m) ∷ history) (first_of P pair) a) (projected_unary P history pair a m) le)
  where
    comes : (alpha m : ℕ) (u v : ℤ) → v ≡ pos m +ℤ u → pos alpha ≤ℤ (u +ℤ pos m) → pos alpha ≤ℤ (v +ℤ pos 0)
    comes alpha m u v e le = omega (arith, ints, e, le)
reaches_projected P pair k alpha a m history sum apart (inr (less, has)) = inr (
  omega (arith, less),
  record {
    tuple = has.tuple;
    picked = record { fits = has.picked.fits; value = has.picked.value; live = tuple_kept P (Did (Project pair.function pair.place a m)) history pair.function has.tuple (λ x b. refl) refl ∙ has.picked.live };
    is = comes_down (total P (Did (Project pair.function pair.place a m) ∷ history) pair has.tuple) (total P history pair has.tuple)
        (unary P (Did (Project pair.function pair.place a m) ∷ history) (first_of P pair) (slice_index has.tuple pair.place)) (unary P history (first_of P pair) (slice_index has.tuple pair.place)) m
        ((shifts_projected P pair k history a m apart).whole has.tuple)
        (subst (λ c. unary P (Did (Project pair.function pair.place a m) ∷ history) (first_of P pair) c ≡ pos m +ℤ unary P history (first_of P pair) c) (sym has.picked.value) (projected_unary P history pair a m)) has.is;
  },
)
  where
    comes_down : (t v u w : ℤ) (m : ℕ) → (t +ℤ u) ≡ (v +ℤ w) → u ≡ pos m +ℤ w → v ≡ pos m → t ≡ pos 0
    comes_down t v u w m same e is = omega (arith, ints, same, e, is)

pub reached_more : (P : Network) (pair : Pair) (k alpha : ℕ) (moves : List ℕ) (n : ℕ) (history : List Event) → floor P history + alpha ≤ k → (second_of P pair ≡ first_of P pair → ⊥) → AreReached P history pair alpha moves n → AreReached P (Did (Project pair.function pair.place n (slice_index moves n)) ∷ history) pair alpha moves (n + 1)
reached_more P pair k alpha moves n history sum apart are = record {
  done = λ a place live h. elim (cases_eq a n) [
    | inl e ↦
        subst (λ b. Reaches P (Did (Project pair.function pair.place n (slice_index moves n)) ∷ history) pair alpha b 0) (sym e)
        (reaches_projected P pair k alpha n (slice_index moves n) history sum apart (are.rest n (subst (IsPlace P pair.function pair.place) e place) (subst (λ b. IsTrue (is_live history (first_of P pair) b)) e live) (omega arith)))
    | inr d ↦
        reaches_on P pair k alpha a 0 history (Did (Project pair.function pair.place n (slice_index moves n)) ∷ history) sum (shifts_projected P pair k history n (slice_index moves n) apart) (still_projected P history pair n (slice_index moves n) a (λ e. d (sym e)))
        (are.done a place live (omega (arith, h, d)))
  ];
  rest = λ a place live h.
      reaches_on P pair k alpha a (slice_index moves a) history (Did (Project pair.function pair.place n (slice_index moves n)) ∷ history) sum (shifts_projected P pair k history n (slice_index moves n) apart) (still_projected P history pair n (slice_index moves n) a (λ e. absurd (omega (arith, e, h))))
      (are.rest a place live (omega (arith, h)));
}

-- who reaches with nothing more has a full support, or has come to alpha
not_below : (alpha : ℕ) (u : ℤ) → pos alpha ≤ℤ (u +ℤ pos 0) → u <ℤ pos alpha → ⊥
not_below alpha u le less = absurd (omega (arith, ints, le, less))

pub full_of : (P : Network) (history : List Event) (pair : Pair) (alpha a : ℕ) → Reaches P history pair alpha a 0 → unary P history (first_of P pair) a <ℤ pos alpha → HasFullSupport P history pair.function pair.place pair.other a
full_of P history pair alpha a (inl le) less = absurd (not_below alpha (unary P history (first_of P pair) a) le less)
full_of P history pair alpha a (inr (some, has)) less = record { tuple = has.tuple; fits = has.picked.fits; at = has.picked.value; live = has.picked.live; free = has.is }

pub all_full : (P : Network) (history : List Event) (pair : Pair) (alpha : ℕ) (moves : List ℕ) (n : ℕ) → ((a : ℕ) → IsPlace P pair.function pair.place a → a < n) → AreReached P history pair alpha moves n → AreFullBelow P history pair alpha
all_full P history pair alpha moves n all are a place live less = full_of P history pair alpha a (are.done a place live (all a place)) less

pub full_or_reached : (P : Network) (history : List Event) (pair : Pair) (alpha a : ℕ) → Reaches P history pair alpha a 0 → HasFullSupport P history pair.function pair.place pair.other a ⊎ (pos alpha ≤ℤ unary P history (first_of P pair) a)
full_or_reached P history pair alpha a (inl le) = inr (plain alpha (unary P history (first_of P pair) a) le)
  where
    plain : (alpha : ℕ) (u : ℤ) → pos alpha ≤ℤ (u +ℤ pos 0) → pos alpha ≤ℤ u
    plain alpha u le = omega (arith, ints, le)
full_or_reached P history pair alpha a (inr (some, has)) = inl (record { tuple = has.tuple; fits = has.picked.fits; at = has.picked.value; live = has.picked.live; free = has.is })
