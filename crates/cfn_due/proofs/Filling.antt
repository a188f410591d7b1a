-- All numbers are put into an empty queue.
use Rattle.std.proofs.Common.{◌≡◌, ◌⊎◌, inl, inr, ℕ, zero, suc, ◌+◌, ◌-◌, ◌<◌, ◌≤◌, Bool, true, false, ◌||◌, List, [], ◌∷◌, ◌++◌, length, refl, sym, ap, ◌∙◌, subst, arith, eq-eqb}
use Rattle.std.proofs.lemmas.Bool.{cases_eq, false≢true}
use Rattle.std.specs.Prelude.{if◌then◌else◌, ◌==◌}
use Rattle.cfn_model.specs.declared.step.Event.{Event}
use Rattle.cfn_model.specs.Network.{Network}
use Rattle.cfn_model.proofs.CallerLemmas.{eqb_other}
use Rattle.cfn_queue.specs.Waiting.{Waiting, is_in, with_item}
use Rattle.cfn_queue.proofs.CallerLemmas.{in_behind}
use Rattle.cfn_due.specs.Dues.{rising, falling, all_due, Holds}
use Rattle.cfn_due.proofs.Staying.{function_of_part}

-- a number that is not there comes behind the others
behind : (size x : ℕ) (items : List ℕ) → is_in x items ≡ false → with_item (record { size = size; items = items }) x ≡ record { size = size; items = items ++ x ∷ [] }
behind size x items none = ap (λ b. if b then record { size = size; items = items } else record { size = size; items = items ++ x ∷ [] }) none

either_false : (a b : Bool) → a ≡ false → b ≡ false → (a || b) ≡ false
either_false true b h k = absurd (false≢true (sym h))
either_false false b h k = k

not_risen : (n x : ℕ) → n ≤ x → is_in x (rising n) ≡ false
not_risen zero x h = refl
not_risen (suc n) x h = in_behind x n (rising n) ∙ either_false (is_in x (rising n)) (x == n) (not_risen n x (omega (arith, h))) (eqb_other x n (λ e. omega (arith, h, e)))

not_fallen : (n i x : ℕ) → i ≤ n → x < n - i → is_in x (falling n i) ≡ false
not_fallen n zero x few h = refl
not_fallen n (suc i) x few h =
    in_behind x (n - 1 - i) (falling n i) ∙ either_false (is_in x (falling n i)) (x == (n - 1 - i)) (not_fallen n i x (omega (arith, few)) (omega (arith, h, few))) (eqb_other x (n - 1 - i) (λ e. omega (arith, h, e, few)))

pub rising_more : (size i : ℕ) (queue : Waiting) → queue ≡ record { size = size; items = rising i } → with_item queue i ≡ record { size = size; items = rising (i + 1) }
rising_more size i queue is =
    let on : suc i ≡ i + 1 = omega arith in
    ap (λ q. with_item q i) is ∙ behind size i (rising i) (not_risen i i (omega arith)) ∙ ap (λ n. record { size = size; items = rising n }) on

pub falling_more : (size n i : ℕ) (queue : Waiting) → i < n → queue ≡ record { size = size; items = falling n i } → with_item queue (n - 1 - i) ≡ record { size = size; items = falling n (i + 1) }
falling_more size n i queue less is =
    let on : suc i ≡ i + 1 = omega arith in
    ap (λ q. with_item q (n - 1 - i)) is ∙ behind size (n - 1 - i) (falling n i) (not_fallen n i (n - 1 - i) (omega (arith, less)) (omega (arith, less))) ∙ ap (λ m. record { size = size; items = falling n m }) on

-- all numbers wait then
one_of : (a b : Bool) → (a ≡ true) ⊎ (b ≡ true) → (a || b) ≡ true
one_of true b h = refl
one_of false b (inl h) = absurd (false≢true h)
one_of false b (inr h) = h

has_risen : (n x : ℕ) → x < n → is_in x (rising n) ≡ true
has_risen zero x h = absurd (omega (arith, h))
has_risen (suc n) x h = in_behind x n (rising n) ∙ one_of (is_in x (rising n)) (x == n) (elim (cases_eq x n) [
  | inl e ↦ inr (eq-eqb x n e)
  | inr d ↦ inl (has_risen n x (omega (arith, h, d)))
])

has_fallen : (n i x : ℕ) → n ≤ x + i → x < n → is_in x (falling n i) ≡ true
has_fallen n zero x h there = absurd (omega (arith, h, there))
has_fallen n (suc i) x h there = in_behind x (n - 1 - i) (falling n i) ∙ one_of (is_in x (falling n i)) (x == (n - 1 - i)) (elim (cases_eq x (n - 1 - i)) [
  | inl e ↦ inr (eq-eqb x (n - 1 - i) e)
  | inr d ↦ inl (has_fallen n i x (omega (arith, h, d, there)) there)
])

pub all_hold : (P : Network) (history : List Event) → Holds P history (all_due P)
all_hold P history = record {
  arcs = λ f not part. absurd (false≢true (sym not ∙ has_risen (length P.functions) f (function_of_part P history f part)));
  directed = λ f not i j a pair. absurd (false≢true (sym not ∙ has_fallen (length P.functions) (length P.functions) f (omega arith) pair.active.function));
  existing = λ x there not. absurd (false≢true (sym not ∙ has_risen (length P.sizes) x there));
}

pub holds_filled : (P : Network) (history : List Event) (functions more variables : ℕ) (arcs directed existing : Waiting) → functions ≡ length P.functions → more ≡ length P.functions → variables ≡ length P.sizes → arcs ≡ record { size = functions; items = rising functions } → directed ≡ record { size = more; items = falling more more } → existing ≡ record { size = variables; items = rising variables } → Holds P history (record { arcs = arcs; directed = directed; existing = existing })
holds_filled P history functions more variables arcs directed existing one two three all back each =
    let first = all ∙ ap (λ n. record { size = n; items = rising n }) one in
    let second = back ∙ ap (λ n. record { size = n; items = falling n n }) two in
    let third = each ∙ ap (λ n. record { size = n; items = rising n }) three in
    subst (λ q. Holds P history (record { arcs = q; directed = directed; existing = existing })) (sym first)
    (subst (λ q. Holds P history (record { arcs = (all_due P).arcs; directed = q; existing = existing })) (sym second)
    (subst (λ q. Holds P history (record { arcs = (all_due P).arcs; directed = (all_due P).directed; existing = q })) (sym third) (all_hold P history)))
