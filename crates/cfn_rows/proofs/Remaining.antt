-- What a count of live values tells.
use Rattle.std.proofs.Common.{◌≡◌, ℕ, zero, suc, ◌<◌, ◌≤◌, Bool, true, false, not, ◌&&◌, List, ◌∷◌, sym, ap, ◌∙◌, inl, inr, arith}
use Rattle.std.proofs.lemmas.Bool.{cases_Bool, cases_eq}
use Rattle.std.specs.Prelude.{if◌then◌else◌}
use Rattle.cfn_model.specs.declared.step.Event.{Event}
use Rattle.cfn_model.specs.Sums.{is_live, removes}
use Rattle.cfn_rows.specs.Sets.{live_below}

abbrev one : Bool → ℕ
one passes = if passes then 1 else 0

at_most_one : (b : Bool) → one b ≤ 1
at_most_one true = omega arith
at_most_one false = omega arith

-- at most all values are live
pub live_below_most : (history : List Event) (x n : ℕ) → live_below history x n ≤ n
live_below_most history x zero = omega arith
live_below_most history x (suc n) = let h = live_below_most history x n in let b = at_most_one (is_live history x n) in omega (arith, h, b)

-- a live value counts
pub live_below_some : (history : List Event) (x n a : ℕ) → a < n → is_live history x a ≡ true → 0 < live_below history x n
live_below_some history x zero a l live = absurd (omega (arith, l))
live_below_some history x (suc n) a l live = elim (cases_eq a n) [
  | inl last ↦ (let here : one (is_live history x n) ≡ 1 = ap one (ap (is_live history x) (sym last) ∙ live) in omega (arith, here))
  | inr other ↦ (let rest = live_below_some history x n a (omega (arith, l, other)) live in omega (arith, rest))
]

-- two of them count twice
pub live_below_two : (history : List Event) (x n a b : ℕ) → a < b → b < n → is_live history x a ≡ true → is_live history x b ≡ true → 1 < live_below history x n
live_below_two history x zero a b l m first second = absurd (omega (arith, m))
live_below_two history x (suc n) a b l m first second = elim (cases_eq b n) [
  | inl last ↦
      (let here : one (is_live history x n) ≡ 1 = ap one (ap (is_live history x) (sym last) ∙ second) in
      let rest = live_below_some history x n a (omega (arith, l, last)) first in
      omega (arith, here, rest))
  | inr other ↦ (let rest = live_below_two history x n a b l (omega (arith, m, other)) first second in omega (arith, rest))
]

-- where none counts none is live
pub live_below_none : (history : List Event) (x n a : ℕ) → live_below history x n ≡ 0 → a < n → is_live history x a ≡ false
live_below_none history x n a none l = elim (cases_Bool (is_live history x a)) [
  | inl live ↦ absurd (let h = live_below_some history x n a l live in omega (arith, none, h))
  | inr dead ↦ dead
]

-- an event leaves no more than there were
pub fewer_below : (event : Event) (history : List Event) (x n : ℕ) → live_below (event ∷ history) x n ≤ live_below history x n
fewer_below event history x zero = omega arith
fewer_below event history x (suc n) = let rest = fewer_below event history x n in let here = less (removes event x n) (is_live history x n) in omega (arith, rest, here)
  where
    less : (gone live : Bool) → one (not gone && live) ≤ one live
    less true true = omega arith
    less true false = omega arith
    less false true = omega arith
    less false false = omega arith
