-- As values are lost functions stay active; while none is, open pairs stay what they are.
use Rattle.std.proofs.Common.{◌≡◌, ℕ, zero, suc, ◌+◌, ◌≤◌, inl, inr, List, [], ◌∷◌, refl, sym, ap, ◌∙◌, subst, arith}
use Rattle.std.specs.Prelude.{Bool, true, false, not, ◌&&◌, slice_index, nat_le, if◌then◌else◌}
use Rattle.cfn_model.specs.declared.step.Step.{Step}
use Rattle.cfn_model.specs.declared.step.Event.{Event}
use Rattle.cfn_model.specs.declared.step.Event.TheVariants.{Did}
use Rattle.cfn_model.specs.Network.{Network, arity, variable_at}
use Rattle.cfn_model.specs.Sums.{is_live, removes}
use Rattle.cfn_model.specs.Steps.{after}
use Rattle.cfn_consistency.specs.Openness.{count_below, is_open, TakesPart, HasOpenPair}

-- no more pass a test than there are
pub count_most : (test : ℕ → Bool) (n : ℕ) → count_below test n ≤ n
count_most test zero = omega arith
count_most test (suc n) = let rest = count_most test n in let here = one (test n) in omega (arith, rest, here)
  where
    one : (b : Bool) → (if b then 1 else 0) ≤ 1
    one true = omega arith
    one false = omega arith

-- of two tests the first passes where the second does
abbrev Under : Bool → Bool → Type 0
Under one other = one ≡ true → other ≡ true

abbrev one_if : Bool → ℕ
one_if b = if b then 1 else 0

one_fewer : (one other : Bool) → Under one other → one_if one ≤ one_if other
one_fewer true true under = omega arith
one_fewer true false under = absurd (let e = under refl in cc)
one_fewer false other under = omega arith

count_fewer : (one other : ℕ → Bool) (n : ℕ) → ((a : ℕ) → Under (one a) (other a)) → count_below one n ≤ count_below other n
count_fewer one other zero under = omega arith
count_fewer one other (suc n) under = let h = one_fewer (one n) (other n) (under n) in let rest = count_fewer one other n under in omega (arith, h, rest)

at_least : (m n : ℕ) → m ≤ n → Under (nat_le 2 m) (nat_le 2 n)
at_least m n le = grind (arith, le)

later_live : (r b : Bool) → Under (not r && b) b
later_live true b e = absurd cc
later_live false b e = e

-- what is open after an event was so before it
pub later_open : (P : Network) (history : List Event) (event : Event) (x : ℕ) → Under (is_open P (event ∷ history) x) (is_open P history x)
later_open P history event x = at_least _ _ (count_fewer (is_live (event ∷ history) x) (is_live history x) (slice_index P.sizes x) (λ a. later_live (removes event x a) (is_live history x a)))

later_part : (P : Network) (history : List Event) (event : Event) (f : ℕ) → TakesPart P history f → TakesPart P (event ∷ history) f
later_part P history event f (inl is) = inl (record {
  function = is.function;
  some = is.some;
  few = (let h = count_fewer (λ i. is_open P (event ∷ history) (variable_at P f i)) (λ i. is_open P history (variable_at P f i)) (arity P f) (λ i. later_open P history event (variable_at P f i)) in
      let few = is.few in
      omega (arith, h, few));
})
later_part P history event f (inr small) = inr small

-- a function that takes part goes on taking part
pub part_after : (P : Network) (history : List Event) (steps : List Step) (f : ℕ) → TakesPart P history f → TakesPart P (after steps history) f
part_after P history [] f part = part
part_after P history (step ∷ steps) f part = part_after P (Did step ∷ history) steps f (later_part P history (Did step) f part)

-- while the same values are live
same_count : (test other : ℕ → Bool) (n : ℕ) → ((a : ℕ) → test a ≡ other a) → count_below test n ≡ count_below other n
same_count test other zero agree = refl
same_count test other (suc n) agree = ap (λ b. one_if b + count_below test n) (agree n) ∙ ap (λ m. one_if (other n) + m) (same_count test other n agree)

pub open_kept : (P : Network) (one other : List Event) (x : ℕ) → ((x a : ℕ) → is_live other x a ≡ is_live one x a) → is_open P other x ≡ is_open P one x
open_kept P one other x same = ap (nat_le 2) (same_count (is_live other x) (is_live one x) (slice_index P.sizes x) (same x))

pub pair_kept : (P : Network) (one other : List Event) (f i j : ℕ) → ((x a : ℕ) → is_live other x a ≡ is_live one x a) → HasOpenPair P one f i j → HasOpenPair P other f i j
pair_kept P one other f i j same has = record {
  active = record {
    function = has.active.function;
    some = has.active.some;
    few = subst (λ n. n ≤ 2) (sym (same_count (λ i. is_open P other (variable_at P f i)) (λ i. is_open P one (variable_at P f i)) (arity P f) (λ i. open_kept P one other (variable_at P f i) same))) has.active.few;
  };
  one = (has.one.0, open_kept P one other (variable_at P f i) same ∙ has.one.1);
  other = (has.other.0, open_kept P one other (variable_at P f j) same ∙ has.other.1);
  different = has.different;
}
