-- Peaks along a history.
use Rattle.std.proofs.Common.{◌≡◌, ℕ, ◌+◌, ◌<◌, ◌^◌, Bool, true, false, not, ◌&&◌, List, ◌∷◌, length, replicate, set, refl, sym, ap, subst, ◌∙◌, inl, inr, arith, get_or-set_same, get_or-set_other}
use Rattle.std.proofs.lemmas.Bool.{cases_eq, false≢true}
use Rattle.std.proofs.lemmas.Int.{ints}
use Rattle.std.proofs.lemmas.List.{length-set, length-replicate, get_or-replicate}
use Rattle.std.specs.Prelude.{pos, neg_ℤ, ◌==◌, slice_index, IsTrue}
use Rattle.cfn_model.proofs.CallerLemmas.{eqb_same, eqb_other}
use Rattle.cfn_model.specs.declared.step.Step.TheVariants.{Project, Extend, Lift, CutValue, CutTuple}
use Rattle.cfn_model.specs.declared.step.Event.{Event}
use Rattle.cfn_model.specs.declared.step.Event.TheVariants.{Did, Took, Refused}
use Rattle.cfn_model.specs.Decisions.{keeps}
use Rattle.cfn_model.specs.Network.{Network}
use Rattle.cfn_model.specs.Sums.{when, unary, unary_by, removes, is_live}
use Rattle.cfn_store.specs.Peaks.{HasPeak, ArePeaks, AreForgotten, AreLow, changes, unknown}

-- what an event does not change costs as much as before, and loses no value
same_cost : (P : Network) (event : Event) (x a : ℕ) → changes P event x ≡ false → unary_by P event x a ≡ pos 0
same_cost P (Did (Project f i b m)) x a apart = ap (λ t. when (t && (b == a)) (pos m)) apart
same_cost P (Did (Extend f i b m)) x a apart = ap (λ t. when (t && (b == a)) (neg_ℤ (pos m))) apart
same_cost P (Did (Lift y m)) x a apart = ap (λ t. when t (neg_ℤ (pos m))) apart
same_cost P (Did (CutValue y b)) x a apart = refl
same_cost P (Did (CutTuple f c)) x a apart = refl
same_cost P (Took d) x a apart = refl
same_cost P (Refused d) x a apart = refl

loses_none : (P : Network) (event : Event) (x a : ℕ) → changes P event x ≡ false → removes event x a ≡ false
loses_none P (Did (Project f i b m)) x a apart = refl
loses_none P (Did (Extend f i b m)) x a apart = refl
loses_none P (Did (Lift y m)) x a apart = refl
loses_none P (Did (CutValue y b)) x a apart = ap (λ t. t && (b == a)) apart
loses_none P (Did (CutTuple f c)) x a apart = refl
loses_none P (Took d) x a apart = ap (λ t. t && not (keeps d a)) apart
loses_none P (Refused d) x a apart = ap (λ t. t && keeps d a) apart

same_unary : (P : Network) (event : Event) (history : List Event) (x a : ℕ) → changes P event x ≡ false → unary P (event ∷ history) x a ≡ unary P history x a
same_unary P event history x a apart = (let c = same_cost P event x a apart in omega (arith, ints, c))

same_live : (P : Network) (event : Event) (history : List Event) (x a : ℕ) → changes P event x ≡ false → is_live (event ∷ history) x a ≡ is_live history x a
same_live P event history x a apart = ap (λ t. not t && is_live history x a) (loses_none P event x a apart)

peak_on : (P : Network) (event : Event) (history : List Event) (x peak : ℕ) → changes P event x ≡ false → HasPeak P history x peak → HasPeak P (event ∷ history) x peak
peak_on P event history x peak apart has = record {
  within = λ a value live. (let u = same_unary P event history x a apart in
      let w = has.within a value (subst IsTrue (same_live P event history x a apart) live) in omega (arith, ints, u, w));
  free = has.free;
  value = has.value;
  live = subst IsTrue (sym (same_live P event history x has.free apart)) has.live;
  nothing = same_unary P event history x has.free apart ∙ has.nothing;
}

peak_back : (P : Network) (event : Event) (history : List Event) (x peak : ℕ) → changes P event x ≡ false → HasPeak P (event ∷ history) x peak → HasPeak P history x peak
peak_back P event history x peak apart has = record {
  within = λ a value live. (let u = same_unary P event history x a apart in
      let w = has.within a value (subst IsTrue (sym (same_live P event history x a apart)) live) in omega (arith, ints, u, w));
  free = has.free;
  value = has.value;
  live = subst IsTrue (same_live P event history x has.free apart) has.live;
  nothing = sym (same_unary P event history x has.free apart) ∙ has.nothing;
}

-- a peak that is known is none of what the event changes
known_still : (P : Network) (event : Event) (old new : List ℕ) (x : ℕ) (test : Bool) → changes P event x ≡ test → x < length old → AreForgotten P event old new → slice_index new x < unknown → changes P event x ≡ false
known_still P event old new x true e there forgotten known = (let g = forgotten.gone x there e in absurd (omega (arith, g, known)))
known_still P event old new x false e there forgotten known = e

pub peaks_on : (P : Network) (event : Event) (history : List Event) (old new : List ℕ) → ArePeaks P history old → AreForgotten P event old new → ArePeaks P (event ∷ history) new
peaks_on P event history old new are forgotten = record {
  size = forgotten.size ∙ are.size;
  each = λ x there known. (let l = are.size in let in_old : x < length old = omega (arith, l, there) in
      let apart = known_still P event old new x (changes P event x) refl in_old forgotten known in
      let same = forgotten.still x apart in
      peak_on P event history x (slice_index new x) apart (subst (λ p. HasPeak P history x p) (sym same) (are.each x there (omega (arith, same, known)))));
}

pub peaks_back : (P : Network) (event : Event) (history : List Event) (old new : List ℕ) → ArePeaks P (event ∷ history) old → AreForgotten P event old new → ArePeaks P history new
peaks_back P event history old new are forgotten = record {
  size = forgotten.size ∙ are.size;
  each = λ x there known. (let l = are.size in let in_old : x < length old = omega (arith, l, there) in
      let apart = known_still P event old new x (changes P event x) refl in_old forgotten known in
      let same = forgotten.still x apart in
      peak_back P event history x (slice_index new x) apart (subst (λ p. HasPeak P (event ∷ history) x p) (sym same) (are.each x there (omega (arith, same, known)))));
}

-- one word is forgotten
forgets_one : (y x : ℕ) (old : List ℕ) (w : ℕ) → y < length old → (y == x) ≡ true → slice_index (set old y w) x ≡ w
forgets_one y x old w there same = elim (cases_eq y x) [
  | inl e ↦ (ap (slice_index (set old y w)) (sym e) ∙ get_or-set_same old y w 0 there)
  | inr d ↦ absurd (false≢true (sym (eqb_other y x d) ∙ same))
]

keeps_others : (y x : ℕ) (old : List ℕ) (w : ℕ) → (y == x) ≡ false → slice_index (set old y w) x ≡ slice_index old x
keeps_others y x old w apart = get_or-set_other old y x w 0 (λ e. false≢true (sym apart ∙ eqb_same y x (sym e)))

pub forgets : (P : Network) (event : Event) (old : List ℕ) (y : ℕ) → y < length old → ((x : ℕ) → changes P event x ≡ (y == x)) → AreForgotten P event old (set old y unknown)
forgets P event old y there is = record {
  size = length-set old y unknown;
  gone = λ x l c. forgets_one y x old unknown there (sym (is x) ∙ c);
  still = λ x c. keeps_others y x old unknown (sym (is x) ∙ c);
}

pub forgets_none : (P : Network) (event : Event) (old : List ℕ) → ((x : ℕ) → changes P event x ≡ false) → AreForgotten P event old old
forgets_none P event old none = record {
  size = refl;
  gone = λ x l c. absurd (false≢true (sym (none x) ∙ c));
  still = λ x c. refl;
}

-- a peak that is noted
noted_at : (P : Network) (history : List Event) (peaks : List ℕ) (y peak x : ℕ) → ArePeaks P history peaks → HasPeak P history y peak → x < length P.sizes → slice_index (set peaks y peak) x < unknown → HasPeak P history x (slice_index (set peaks y peak) x)
noted_at P history peaks y peak x are has there known = elim (cases_eq y x) [
  | inl e ↦ (let l = are.size in let here = ap (slice_index (set peaks y peak)) (sym e) ∙ get_or-set_same peaks y peak 0 (omega (arith, l, e, there)) in
      subst (λ p. HasPeak P history x p) (sym here) (subst (λ z. HasPeak P history z peak) e has))
  | inr d ↦ (let same = get_or-set_other peaks y x peak 0 (λ e. d (sym e)) in
      subst (λ p. HasPeak P history x p) (sym same) (are.each x there (omega (arith, same, known))))
]

pub peaks_noted : (P : Network) (history : List Event) (peaks : List ℕ) (y peak : ℕ) → ArePeaks P history peaks → HasPeak P history y peak → ArePeaks P history (set peaks y peak)
peaks_noted P history peaks y peak are has = record {
  size = length-set peaks y peak ∙ are.size;
  each = λ x there known. noted_at P history peaks y peak x are has there known;
}

-- no peak is known at first
pub none_known : (P : Network) (history : List Event) (words : List ℕ) → words ≡ replicate (length P.sizes) unknown → ArePeaks P history words
none_known P history words are = record {
  size = ap length are ∙ length-replicate (length P.sizes) unknown;
  each = λ x there known. (let w = ap (λ ws. slice_index ws x) are ∙ get_or-replicate (length P.sizes) x unknown 0 there in absurd (omega (arith, w, known)));
}

-- one variable more whose peak is below a bound
pub low_none : (P : Network) (history : List Event) (from bound : ℕ) → AreLow P history from from bound
low_none P history from bound x l r there = absurd (omega (arith, l, r))

pub low_more : (P : Network) (history : List Event) (peaks : List ℕ) (from x bound : ℕ) → ArePeaks P history peaks → bound < 2 ^ 64 → x < length peaks → slice_index peaks x < bound → AreLow P history from x bound → AreLow P history from (x + 1) bound
low_more P history peaks from x bound are fits there below low y l r in_range = elim (cases_eq y x) [
  | inl e ↦ (subst (λ z. (peak : ℕ) × (peak < bound) × HasPeak P history z peak) (sym e) (slice_index peaks x, below, are.each x (let s = are.size in omega (arith, s, there)) (omega (arith, fits, below))))
  | inr d ↦ low y l (omega (arith, r, d)) in_range
]
