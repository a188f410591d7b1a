-- From full supports to directional arc consistency.
use Rattle.std.proofs.Common.{◌≡◌, ◌⊎◌, ℕ, ◌+◌, ◌<◌, ◌≤◌, inl, inr, List, refl, sym, ap, ◌∙◌, subst, arith}
use Rattle.std.proofs.lemmas.Bool.{cases_eq}
use Rattle.std.proofs.lemmas.Int.{ints}
use Rattle.std.specs.Prelude.{ℤ, pos, ◌+ℤ◌, ◌<ℤ◌, IsTrue}
use Rattle.cfn_model.specs.declared.step.Event.{Event}
use Rattle.cfn_model.specs.Network.{Network, IsNetwork, arity, variable_at}
use Rattle.cfn_model.specs.Sums.{floor, unary, is_live}
use Rattle.cfn_model.specs.Steps.{IsPlace}
use Rattle.cfn_consistency.specs.Openness.{is_open, open_count, HasOpenPair}
use Rattle.cfn_consistency.specs.Consistency.{IsDirectional, HasFullSupport}
use Rattle.cfn_gain.specs.Levels.{AreBelow}
use Rattle.cfn_dac.specs.declared.pair.Pair.{Pair}
use Rattle.cfn_store.specs.Standing.{Standing, history}
use Rattle.cfn_dac.specs.Full.{AreFullBelow, first_of}
use Rattle.cfn_dac.specs.declared.open.Opens.{Opens}
use Rattle.cfn_dac.specs.declared.open.Opens.TheVariants.{Few, Two, Many}
use Rattle.cfn_dac.specs.Opens.{HasOpens, NoOpenPair, IsLowerPair}
use Rattle.cfn_dac.proofs.Counting.{some_two, some_three}
use Rattle.cfn_dac.proofs.Places.{cases_lt, first_value}

-- a function with one open variable, or with three, has no open pair
two_open : (P : Network) (history : List Event) (f i j : ℕ) → HasOpenPair P history f i j → 2 ≤ open_count P history f
two_open P history f i j has = elim (cases_lt i j) [
  | inl less ↦ some_two (λ k. is_open P history (variable_at P f k)) (arity P f) i j less has.other.0 has.one.1 has.other.1
  | inr more ↦ some_two (λ k. is_open P history (variable_at P f k)) (arity P f) j i (let d = has.different in omega (arith, more, d)) has.one.0 has.other.1 has.one.1
]

few_no_pair : (P : Network) (history : List Event) (f : ℕ) → open_count P history f ≤ 1 → NoOpenPair P history f
few_no_pair P history f few i j has = let two = two_open P history f i j has in absurd (omega (arith, few, two))

many_no_pair : (P : Network) (history : List Event) (f : ℕ) → 2 < open_count P history f → NoOpenPair P history f
many_no_pair P history f many i j has = let few = has.active.few in absurd (omega (arith, few, many))

pub no_pair : (P : Network) (history : List Event) (f : ℕ) (opens : Opens) → HasOpens P history f opens → ((i j : ℕ) → opens ≡ Two i j → ⊥) → NoOpenPair P history f
no_pair P history f Few has other = few_no_pair P history f has
no_pair P history f (Two i j) has other = absurd (other i j refl)
no_pair P history f Many has other = many_no_pair P history f has

-- the other way round
swapped : (P : Network) (history : List Event) (f i j : ℕ) → HasOpenPair P history f i j → HasOpenPair P history f j i
swapped P history f i j has = record { active = has.active; one = has.other; other = has.one; different = λ e. has.different (sym e) }

-- no third place is open
third : (P : Network) (history : List Event) (f i j k : ℕ) → i < j → HasOpenPair P history f i j → k < arity P f → IsTrue (is_open P history (variable_at P f k)) → (k ≡ i) ⊎ (k ≡ j)
third P history f i j k order has there here = elim (cases_eq k i) [
  | inl e ↦ inl e
  | inr d ↦ (elim (cases_eq k j) [
    | inl e ↦ inr e
    | inr c ↦ (let few = has.active.few in
        let test = λ (p : ℕ). is_open P history (variable_at P f p) in
        elim (cases_lt k i) [
          | inl less ↦ absurd (let three = some_three test (arity P f) k i j less order has.other.0 here has.one.1 has.other.1 in omega (arith, few, three))
          | inr more ↦ (elim (cases_lt k j) [
            | inl less ↦ absurd (let three = some_three test (arity P f) i k j (omega (arith, more, d)) less has.other.0 has.one.1 here has.other.1 in omega (arith, few, three))
            | inr above ↦ absurd (let three = some_three test (arity P f) i j k order (omega (arith, above, c)) there has.one.1 has.other.1 here in omega (arith, few, three))
          ])
        ])
  ])
]

pub either : (P : Network) (history : List Event) (f i j k : ℕ) → HasOpenPair P history f i j → k < arity P f → IsTrue (is_open P history (variable_at P f k)) → (k ≡ i) ⊎ (k ≡ j)
either P history f i j k has there here = elim (cases_lt i j) [
  | inl less ↦ third P history f i j k less has there here
  | inr more ↦ turn (third P history f j i k (let d = has.different in omega (arith, more, d)) (swapped P history f i j has) there here)
]
  where
    turn : (k ≡ j) ⊎ (k ≡ i) → (k ≡ i) ⊎ (k ≡ j)
    turn (inl e) = inr e
    turn (inr e) = inl e

-- an open pair with the lower variable first is the one that was found
same_pair : (P : Network) (history : List Event) (f p q : ℕ) (pair : Pair) → IsLowerPair P history f pair → HasOpenPair P history f p q → variable_at P f p < variable_at P f q → (p ≡ pair.place) × (q ≡ pair.other)
same_pair P history f p q pair is has lower = by (either P history f pair.place pair.other p is.opens has.one.0 has.one.1) (either P history f pair.place pair.other q is.opens has.other.0 has.other.1)
  where
    by : (p ≡ pair.place) ⊎ (p ≡ pair.other) → (q ≡ pair.place) ⊎ (q ≡ pair.other) → (p ≡ pair.place) × (q ≡ pair.other)
    by (inl e) (inr d) = (e, d)
    by (inl e) (inl d) = absurd (has.different (e ∙ sym d))
    by (inr e) (inr d) = absurd (has.different (e ∙ sym d))
    by (inr e) (inl d) = absurd (let a = is.lower in let u = ap (variable_at P f) e in let v = ap (variable_at P f) d in omega (arith, a, lower, u, v))

below_lacks : (n lacks k : ℕ) (u : ℤ) → n + lacks ≡ k → (pos n +ℤ u) <ℤ pos k → u <ℤ pos lacks
below_lacks n lacks k u sum h = omega (arith, ints, sum, h)

-- what was below in a store that is the same, at a variable by another name
pub below_at : (s mid : Standing) (k x y : ℕ) → mid ≡ s → x ≡ y → AreBelow mid.network (history mid) k x → AreBelow s.network (history s) k y
below_at s mid k x y is at below = subst (AreBelow s.network (history s) k) at (subst (λ t. AreBelow t.network (history t) k x) is below)

pub full_is_directional : (P : Network) (history : List Event) (k lacks f : ℕ) (pair : Pair) → IsNetwork P → floor P history + lacks ≡ k → IsLowerPair P history f pair → AreFullBelow P history pair lacks → AreBelow P history k (first_of P pair) → IsDirectional P history f
full_is_directional P history k lacks f pair net sum is full below p q a has lower place live =
    let same = same_pair P history f p q pair is has lower in
    let e = is.function in
    let there : IsPlace P pair.function pair.place a = subst (λ g. IsPlace P g pair.place a) (sym e) (subst (λ i. IsPlace P f i a) same.0 place) in
    let x : variable_at P f p ≡ first_of P pair = ap (variable_at P f) same.0 ∙ ap (λ g. variable_at P g pair.place) (sym e) in
    let live_there = subst (λ v. IsTrue (is_live history v a)) x live in
    let has_full = full a there live_there (below_lacks (floor P history) lacks k (unary P history (first_of P pair) a) sum (below a (first_value P pair a net there) live_there)) in
    subst (λ g. HasFullSupport P history g p q a) e (subst (λ i. HasFullSupport P history pair.function i q a) (sym same.0) (subst (λ j. HasFullSupport P history pair.function pair.place j a) (sym same.1) has_full))
