-- How many variables of a function are open.
use Rattle.std.proofs.Common.{◌≡◌, ℕ, zero, suc, ◌+◌, ◌-◌, ◌<◌, ◌≤◌, Bool, true, false, inl, inr, List, refl, sym, ap, ◌∙◌, add-one, arith}
use Rattle.std.proofs.lemmas.Bool.{cases_eq}
use Rattle.std.proofs.lemmas.Bool.Decides.{nat_tests}
use Rattle.std.specs.Prelude.{slice_index, nat_le, if◌then◌else◌}
use Rattle.cfn_model.specs.declared.step.Event.{Event}
use Rattle.cfn_model.specs.Network.{variable_at}
use Rattle.cfn_model.specs.Sums.{is_live}
use Rattle.cfn_consistency.specs.Openness.{count_below, is_open}
use Rattle.cfn_rows.specs.Sets.{live_below}
use Rattle.cfn_store.specs.Standing.{Standing, history}
use Rattle.cfn_branch.specs.Choosing.{choices}

abbrev pub one : Bool → ℕ
one passes = if passes then 1 else 0

same_count : (events : List Event) (x n : ℕ) → live_below events x n ≡ count_below (is_live events x) n
same_count events x zero = refl
same_count events x (suc n) = let rest = same_count events x n in omega (arith, rest)

pub open_is : (s : Standing) (x : ℕ) → is_open s.network (history s) x ≡ nat_le 2 (choices s x)
open_is s x = ap (nat_le 2) (sym (same_count (history s) x (slice_index s.network.sizes x)))

-- how many of the first variables of f are open
abbrev pub open_before : Standing → ℕ → ℕ → ℕ
open_before s f i = count_below (λ j. is_open s.network (history s) (variable_at s.network f j)) i

pub next_open : (s : Standing) (f i x : ℕ) → x ≡ variable_at s.network f i → open_before s f (i + 1) ≡ one (nat_le 2 (choices s x)) + open_before s f i
next_open s f i x is = ap (open_before s f) (add-one i) ∙ ap (λ b. one b + open_before s f i) (ap (is_open s.network (history s)) (sym is) ∙ open_is s x)

pub open_one_more : (s : Standing) (f i x : ℕ) → x ≡ variable_at s.network f i → 2 ≤ choices s x → open_before s f (i + 1) ≡ open_before s f i + 1
open_one_more s f i x is two = let e : nat_le 2 (choices s x) ≡ true = grind (arith, nat_tests) in let h = next_open s f i x is in let o = ap one e in omega (arith, h, o)

pub open_no_more : (s : Standing) (f i x : ℕ) → x ≡ variable_at s.network f i → choices s x < 2 → open_before s f (i + 1) ≡ open_before s f i
open_no_more s f i x is few = let e : nat_le 2 (choices s x) ≡ false = grind (arith, nat_tests) in let h = next_open s f i x is in let o = ap one e in omega (arith, h, o)

pub open_grows : (s : Standing) (f i j : ℕ) → i ≤ j → open_before s f i ≤ open_before s f j
open_grows s f i zero h = let e : i ≡ 0 = omega (arith, h) in let g = ap (open_before s f) e in omega (arith, g)
open_grows s f i (suc j) h = elim (cases_eq i (suc j)) [
  | inl same ↦ (let g = ap (open_before s f) same in omega (arith, g))
  | inr other ↦ (let rest = open_grows s f i j (omega (arith, h, other)) in omega (arith, rest))
]

pub two_are_open : (n : ℕ) → 2 ≤ n → true ≡ nat_le 2 n
two_are_open n h = grind (arith, nat_tests)

pub fewer_are_open : (n : ℕ) → n < 2 → false ≡ nat_le 2 n
fewer_are_open n h = grind (arith, nat_tests)

-- two variables of which one is open: as many as the other one says
pub two_tell : (s : Standing) (f i x y : ℕ) → i < 2 → x ≡ variable_at s.network f i → y ≡ variable_at s.network f (1 - i) → 2 ≤ choices s x → open_before s f 2 ≡ 1 + one (nat_le 2 (choices s y))
two_tell s f zero x y l first second two =
    let begin : open_before s f 0 ≡ 0 = refl in
    let here = open_one_more s f 0 x first two in
    let there = next_open s f 1 y second in
    omega (arith, begin, here, there)
two_tell s f (suc zero) x y l first second two =
    let begin : open_before s f 0 ≡ 0 = refl in
    let there = next_open s f 0 y second in
    let here = open_one_more s f 1 x first two in
    omega (arith, begin, here, there)
two_tell s f (suc (suc i)) x y l first second two = absurd (omega (arith, l))

pub one_and : (b : Bool) → b ≡ nat_le 2 (1 + one b)
one_and true = refl
one_and false = refl
