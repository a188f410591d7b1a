-- What is found by loops within loops, the best so far being carried along.
use Rattle.std.proofs.Common.{◌≡◌, ℕ, ◌+◌, ◌-◌, ◌<◌, ◌≤◌, ◌⊎◌, inl, inr, List, [], ◌∷◌, length, refl, sym, ap, subst, ◌∙◌, arith}
use Rattle.std.proofs.lemmas.Bool.{cases_lt}
use Rattle.std.specs.Prelude.{Option, Some, None, slice_index, IsSomeAnd, MatchOption}
use Rattle.cfn_scan.specs.declared.scan.Scan.{Scan}
use Rattle.cfn_scan.specs.declared.scan.Spot.{Spot}
use Rattle.cfn_scan.specs.declared.scan.Best.{Best}
use Rattle.cfn_scan.specs.declared.scan.Extreme.{Extreme}
use Rattle.cfn_scan.specs.declared.scan.Sense.{Sense}
use Rattle.cfn_scan.specs.declared.scan.Sense.TheVariants.{Least, Greatest}
use Rattle.cfn_scan.specs.Scanning.{AreChoices, NoneMet, IsFound, IsSooner, IsBest, Before, found_in, found_with, gone_on, key}
use Rattle.cfn_scan.proofs.Scans.{FirstOf, first_of_none, next_choice, all_choices, at_once_found}

pub three_of : (xs : List ℕ) → length xs ≡ 3 → xs ≡ slice_index xs 0 ∷ slice_index xs 1 ∷ slice_index xs 2 ∷ []
three_of [] three = absurd (omega (arith, three))
three_of (x ∷ []) three = absurd (omega (arith, three))
three_of (x ∷ (y ∷ [])) three = absurd (omega (arith, three))
three_of (x ∷ (y ∷ (z ∷ []))) three = refl
three_of (x ∷ (y ∷ (z ∷ (w ∷ xs)))) three = absurd (omega (arith, three))

before_trans : (sense : Sense) (a b c : ℕ) → Before sense a b → Before sense b c → Before sense a c
before_trans Least a b c h k = omega (arith, h, k)
before_trans Greatest a b c h k = omega (arith, h, k)

before_same : (sense : Sense) (a : ℕ) → Before sense a a
before_same Least a = omega arith
before_same Greatest a = omega arith

before_either : (sense : Sense) (a b : ℕ) → Before sense a b ⊎ Before sense b a
before_either Least a b = elim (cases_lt a b) [
  | inl l ↦ inl (omega (arith, l))
  | inr l ↦ inr l
]
before_either Greatest a b = elim (cases_lt a b) [
  | inl l ↦ inr (omega (arith, l))
  | inr l ↦ inl l
]

-- the sooner of three is the sooner of the first and of the sooner of the two others
pub record Sooner (sense : Sense) (first one two last : Option Extreme) : Type 0 where
  pub other : Option Extreme
  pub both : IsSooner sense one two other
  pub whole : IsSooner sense first other last

pub sooner_none : (sense : Sense) (first : Option Extreme) → IsSooner sense first None first
sooner_none sense None = refl
sooner_none sense (Some a) = refl

pub sooner_twice : (sense : Sense) (first one two middle last : Option Extreme) → IsSooner sense first one middle → IsSooner sense middle two last → Sooner sense first one two last
sooner_twice sense None one two middle last is next = record { other = last; both = subst (λ m. IsSooner sense m two last) is next; whole = refl }
sooner_twice sense (Some a) None two middle last is next = record { other = two; both = refl; whole = subst (λ m. IsSooner sense m two last) is next }
sooner_twice sense (Some a) (Some b) None middle last is next =
    let same : last ≡ Some is.0 = subst (λ m. IsSooner sense m None last) is.1 next in
    record { other = Some b; both = refl; whole = (is.0, same, is.2, is.3, is.4) }
sooner_twice sense (Some a) (Some b) (Some c) middle last is next =
    let then = subst (λ m. IsSooner sense m (Some c) last) is.1 next in
    of_three then.0 then.1 then.2 then.3 then.4 is.4
  where
    m : Extreme
    m = is.0

    of_three : (l : Extreme) → last ≡ Some l → Before sense l.cost m.cost → Before sense l.cost c.cost → (l ≡ m) ⊎ (l ≡ c) → (m ≡ a) ⊎ (m ≡ b) → Sooner sense (Some a) (Some b) (Some c) last
    of_three l same before_m before_c (inr e) which = record {
      other = Some c;
      both = (c, refl, subst (λ (x : Extreme). Before sense x.cost b.cost) e (before_trans sense l.cost m.cost b.cost before_m is.3), before_same sense c.cost, inr refl);
      whole = (l, same, before_trans sense l.cost m.cost a.cost before_m is.2, before_c, inr e);
    }
    of_three l same before_m before_c (inl e) (inr f) = record {
      other = Some b;
      both = (b, refl, before_same sense b.cost, subst (λ (x : Extreme). Before sense x.cost c.cost) (e ∙ f) before_c, inl refl);
      whole = (l, same, before_trans sense l.cost m.cost a.cost before_m is.2, before_trans sense l.cost m.cost b.cost before_m is.3, inr (e ∙ f));
    }
    of_three l same before_m before_c (inl e) (inl f) = elim (before_either sense b.cost c.cost) [
      | inl h ↦ record {
        other = Some b;
        both = (b, refl, before_same sense b.cost, h, inl refl);
        whole = (l, same, before_trans sense l.cost m.cost a.cost before_m is.2, before_trans sense l.cost m.cost b.cost before_m is.3, inl (e ∙ f));
      }
      | inr h ↦ record {
        other = Some c;
        both = (c, refl, h, before_same sense c.cost, inr refl);
        whole = (l, same, before_trans sense l.cost m.cost a.cost before_m is.2, before_c, inl (e ∙ f));
      }
    ]

-- where what comes has the key 0, and what was there has not, it is the new one
key_again : (sense : Sense) (cost : ℕ) → cost ≡ key sense 0 → key sense cost ≡ 0
key_again Least cost e = e
key_again Greatest cost e = (let k : 18446744073709551615 - cost ≡ 0 = omega (arith, e) in k)

keys_differ : (sense : Sense) (k : ℕ) → 0 < k → key sense k ≡ key sense 0 → ⊥
keys_differ Least k some e = omega (arith, some, e)
keys_differ Greatest k some e = omega (arith, some, e)

abbrev or_else : Extreme → Option Extreme → Extreme
or_else a None = a
or_else a (Some b) = b

some_of : (a b : Extreme) → ◌≡◌ {A = Option Extreme} (Some a) (Some b) → a ≡ b
some_of a b e = ap (or_else a) e

pub new_one : (sense : Sense) (k last : ℕ) (cell found : Option ℕ) (other : Option Extreme) → 0 < k → last ≡ 0 → (found ≡ None → last ≡ 18446744073709551615) → IsSooner sense (found_with sense k cell) other (found_with sense last found) → IsSomeAnd other (λ extreme. key sense extreme.cost ≡ 0)
new_one sense k last cell None other some none best is = (let b = best refl in absurd (omega (arith, none, b)))
new_one sense k last None (Some c) other some none best is = subst (λ (o : Option Extreme). IsSomeAnd o (λ extreme. key sense extreme.cost ≡ 0)) is (key_again sense (key sense last) (ap (key sense) none))
new_one sense k last (Some d) (Some c) None some none best is = absurd (keys_differ sense k some (sym (ap (λ (x : Extreme). x.cost) (some_of _ _ is)) ∙ ap (key sense) none))
new_one sense k last (Some d) (Some c) (Some b) some none best is = elim is.4 [
  | inl e ↦ absurd (keys_differ sense k some (sym (ap (λ (x : Extreme). x.cost) (some_of _ _ is.1 ∙ e)) ∙ ap (key sense) none))
  | inr e ↦ key_again sense b.cost (sym (ap (λ (x : Extreme). x.cost) (some_of _ _ is.1 ∙ e)) ∙ ap (key sense) none)
]

-- what a loop over choices has found, beside what it began with
pub record Carries (scan : Scan) (x : ℕ) (scope : List ℕ) (spot : Spot) (values : List ℕ) (n : ℕ) (begin best : Best) : Type 0 where
  pub is_best : IsBest best
  pub some : 0 < best.key
  pub other : Option Extreme
  pub first : FirstOf scan x scope spot values n other
  pub sooner : IsSooner scan.sense (found_in scan.sense begin) other (found_in scan.sense best)

-- what it leaves
abbrev pub Leaves : Scan → List ℕ → Spot → Best → Best → Type 0
Leaves scan scope spot begin best = (other : Option Extreme) × MatchOption other (NoneMet scan scope spot) (IsFound scan scope spot) × IsSooner scan.sense (found_in scan.sense begin) other (found_in scan.sense best)

module _ (scan : Scan) (x : ℕ) (scope : List ℕ) (spot : Spot) (values : List ℕ) (begin : Best) where
  pub carries_none : IsBest begin → 0 < begin.key → Carries scan x scope spot values 0 begin begin
  carries_none is some = record { is_best = is; some = some; other = None; first = first_of_none scan x scope spot values; sooner = sooner_none scan.sense (found_in scan.sense begin) }

  abbrev behind : ℕ → Spot
  behind n = gone_on scan spot (slice_index scan.sizes.now x) (slice_index values n)

  pub carries_more : (n : ℕ) (best next : Best) → Carries scan x scope spot values n begin best → IsBest next → 0 < next.key → Leaves scan scope (behind n) best next → Carries scan x scope spot values (n + 1) begin next
  carries_more n best next old is some new =
      let twice = sooner_twice scan.sense (found_in scan.sense begin) old.other new.0 (found_in scan.sense best) (found_in scan.sense next) old.sooner new.2 in
      record { is_best = is; some = some; other = twice.other; first = next_choice scan x scope spot values n old.other new.0 twice.other old.first new.1 twice.both; sooner = twice.whole }

  pub carries_all : (n : ℕ) (best : Best) → AreChoices scan spot.place x values → length values ≤ n → n ≤ length values → Carries scan x scope spot values n begin best → Leaves scan (x ∷ scope) spot begin best
  carries_all n best are l m old = (old.other, all_choices scan x scope spot values n old.other are l m old.first, old.sooner)

  pub carries_enough : (n : ℕ) (best next : Best) → AreChoices scan spot.place x values → n < length values → 0 < begin.key → Carries scan x scope spot values n begin best → IsBest next → next.key ≡ 0 → Leaves scan scope (behind n) best next → Leaves scan (x ∷ scope) spot begin next
  carries_enough n best next are l some old is none new =
      let twice = sooner_twice scan.sense (found_in scan.sense begin) old.other new.0 (found_in scan.sense best) (found_in scan.sense next) old.sooner new.2 in
      let first = next_choice scan x scope spot values n old.other new.0 twice.other old.first new.1 twice.both in
      (twice.other, at_once_found scan x scope spot values (n + 1) twice.other are (omega (arith, l)) first (new_one scan.sense begin.key next.key begin.cell next.cell twice.other some none is twice.whole), twice.whole)
