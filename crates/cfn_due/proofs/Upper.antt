-- Directional arc consistency asks full supports of the lower of two open variables alone; so what the lower one of a function
-- of two variables loses ends none.
use Rattle.std.proofs.Common.{◌≡◌, ℕ, ◌-◌, ◌<◌, ◌≤◌, inl, inr, false, List, ◌∷◌, length, refl, sym, ap, ◌∙◌, subst, arith}
use Rattle.std.proofs.lemmas.Bool.{cases_eq, and_parts}
use Rattle.std.proofs.lemmas.Int.{ints}
use Rattle.std.specs.Prelude.{ℤ, pos, ◌≤ℤ◌, not, IsTrue}
use Rattle.cfn_model.specs.declared.step.Event.{Event}
use Rattle.cfn_model.specs.Network.{Network, IsNetwork, arity, variable_at}
use Rattle.cfn_model.specs.Sums.{removes, is_live, residual_by, unary_by}
use Rattle.cfn_scan.specs.Exact.{HasNoDebts}
use Rattle.cfn_consistency.specs.Openness.{is_open, HasOpenPair}
use Rattle.cfn_consistency.specs.Consistency.{IsDirectional}
use Rattle.cfn_consistency.proofs.CallerLemmas.{count_most, later_open, directional_is_local}
use Rattle.cfn_due.specs.Going.{IsUpper, GoesDirected}
use Rattle.cfn_due.proofs.Agreeing.{MovesNothing, SparesBy, spares_by, same_unaries, same_costs, tuple_kept, around_agrees}
use Rattle.cfn_due.proofs.Falling.{full_kept}

-- what is 0 does not rise
pub falls_none : (z : ℤ) → z ≡ pos 0 → z ≤ℤ pos 0
falls_none z e = omega (arith, ints, e)

-- the two open variables of a function of two
pub pair_of_two : (P : Network) (history : List Event) (f i : ℕ) → f < length P.functions → arity P f ≡ 2 → i < 2 → IsTrue (is_open P history (variable_at P f i)) → IsTrue (is_open P history (variable_at P f (1 - i))) → HasOpenPair P history f i (1 - i)
pair_of_two P history f i there two here one other = record {
  active = record {
    function = there;
    some = omega (arith, two);
    few = let all = count_most (λ k. is_open P history (variable_at P f k)) (arity P f) in omega (arith, all, two);
  };
  one = (omega (arith, two, here), one);
  other = (omega (arith, two), other);
  different = λ e. omega (arith, e);
}

-- of two different places of a function of two variables each is the other one
other_place : (i j n : ℕ) → i < n → j < n → (i ≡ j → ⊥) → n ≡ 2 → 1 - i ≡ j
other_place i j n here there apart two = omega (arith, here, there, apart, two)

-- the upper one of two variables
pub upper_is : (P : Network) (f i j x : ℕ) → i < arity P f → j < arity P f → (i ≡ j → ⊥) → variable_at P f i < variable_at P f j → x ≡ variable_at P f j → IsUpper P x f
upper_is P f i j x here there apart lower at = (
  j,
  there,
  sym at,
  λ two.
      (let same = ap (variable_at P f) (other_place j i (arity P f) there here (λ e. apart (sym e)) two) in
      omega (arith, lower, at, same)),
)

-- the lower variable's full supports in a function of two variables
lower_kept : (P : Network) (history : List Event) (event : Event) (f : ℕ) → MovesNothing event → IsNetwork P → HasNoDebts P (event ∷ history) → SparesBy IsUpper P event f → arity P f ≡ 2 → IsDirectional P history f → IsDirectional P (event ∷ history) f
lower_kept P history event f still net debts spares two was i j a pair lower place live =
    let other = other_place i j (arity P f) pair.one.0 pair.other.0 pair.different two in
    let back = other_place j i (arity P f) pair.other.0 pair.one.0 (λ e. pair.different (sym e)) two in
    let here = pair.one.0 in
    let up : arity P f ≡ 2 → variable_at P f (1 - j) ≤ variable_at P f j = λ t. (let same = ap (variable_at P f) back in omega (arith, lower, same)) in
    let pair_was = subst (HasOpenPair P history f i) other
    (pair_of_two P history f i pair.active.function two (omega (arith, here, two)) (later_open P history event (variable_at P f i) pair.one.1)
    (subst (λ k. IsTrue (is_open P history (variable_at P f k))) (sym other) (later_open P history event (variable_at P f j) pair.other.1))) in
    let has = was i j a pair_was lower place (and_parts (not (removes event (variable_at P f i) a)) (is_live history (variable_at P f i) a) live).1 in
    full_kept P history event f i j a net pair.active.function pair.other.0 debts
    (λ tuple. falls_none (residual_by event f tuple) (same_costs event f tuple still))
    (λ b. falls_none (unary_by P event (variable_at P f j) b) (same_unaries P event (variable_at P f j) b still))
    has
    (tuple_kept P history event f i a has.tuple spares.tuples
    (λ k v l apart. subst (λ n. removes event (variable_at P f n) v ≡ false) (sym other ∙ other_place i k (arity P f) here l (λ e. apart (sym e)) two) (spares.values (variable_at P f j) (j, pair.other.0, refl, up) v))
    has.at live has.live)

pub directed_agrees : (P : Network) (history : List Event) (event : Event) (f : ℕ) → MovesNothing event → IsNetwork P → HasNoDebts P (event ∷ history) → (GoesDirected P event f → ⊥) → IsDirectional P history f → IsDirectional P (event ∷ history) f
directed_agrees P history event f still net debts stays was = elim (cases_eq (arity P f) 2) [
  | inl two ↦ lower_kept P history event f still net debts (spares_by IsUpper P event f still stays) two was
  | inr more ↦ (let spares = spares_by IsUpper P event f still stays in
      (directional_is_local P (event ∷ history) history f (around_agrees P history event f still (λ j there. spares.values (variable_at P f j) (j, there, refl, λ two. absurd (more two))) spares.tuples)).1 was)
]
