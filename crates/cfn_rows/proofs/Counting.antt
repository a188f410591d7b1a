-- How many values have a place below a count.
use Rattle.std.proofs.Common.{◌≡◌, ◌≢◌, ℕ, zero, suc, ◌+◌, ◌<◌, ◌≤◌, Bool, true, false, List, length, get_or, take, refl, sym, ap, ◌∙◌, inl, inr, eq-eqb, ne_eqb, arith}
use Rattle.std.proofs.lemmas.Bool.{cases_eq}
use Rattle.std.proofs.lemmas.Bool.Decides.{nat_tests}
use Rattle.std.proofs.lemmas.List.{get_or-take, length-take-le}
use Rattle.std.specs.Prelude.{◌==◌, nat_lt, IsTrue, if◌then◌else◌}
use Rattle.cfn_model.specs.declared.step.Event.{Event}
use Rattle.cfn_model.specs.Sums.{is_live}
use Rattle.cfn_rows.specs.Order.{AreInverse}
use Rattle.cfn_rows.specs.Sets.{Sets, IsValue, live_below, AreLive}

abbrev one : Bool → ℕ
one passes = if passes then 1 else 0

-- how many numbers below one pass a test
abbrev below : (ℕ → Bool) → ℕ → ℕ
below test zero = 0
below test (suc n) = one (test n) + below test n

below_same : (s t : ℕ → Bool) (n : ℕ) → ((a : ℕ) → a < n → s a ≡ t a) → below s n ≡ below t n
below_same s t zero h = refl
below_same s t (suc n) h = let here = ap one (h n (omega arith)) in let rest = below_same s t n (λ a l. h a (omega (arith, l))) in omega (arith, here, rest)

none_below : (t : ℕ → Bool) (n : ℕ) → ((a : ℕ) → a < n → t a ≡ false) → below t n ≡ 0
none_below t zero h = refl
none_below t (suc n) h = let here = ap one (h n (omega arith)) in let rest = none_below t n (λ a l. h a (omega (arith, l))) in omega (arith, here, rest)

one_below : (t : ℕ → Bool) (n a : ℕ) → a < n → t a ≡ true → ((b : ℕ) → b < n → b ≢ a → t b ≡ false) → below t n ≡ 1
one_below t zero a l is others = absurd (omega (arith, l))
one_below t (suc n) a l is others = elim (cases_eq a n) [
  | inl last ↦
      (let here : one (t n) ≡ 1 = ap one (ap t (sym last) ∙ is) in
      let rest = none_below t n (λ b m. others b (omega (arith, m)) (λ e. omega (arith, e, last, m))) in
      omega (arith, here, rest))
  | inr other ↦
      (let here : one (t n) ≡ 0 = ap one (others n (omega arith) (λ e. other (sym e))) in
      let rest = one_below t n a (omega (arith, l, other)) is (λ b m ne. others b (omega (arith, m)) ne) in
      omega (arith, here, rest))
]

next_below : (f : ℕ → ℕ) (c n : ℕ) → below (λ a. nat_lt (f a) (suc c)) n ≡ below (λ a. nat_lt (f a) c) n + below (λ a. f a == c) n
next_below f c zero = refl
next_below f c (suc n) =
    let here : one (nat_lt (f n) (suc c)) ≡ one (nat_lt (f n) c) + one (f n == c) = grind (arith, nat_tests) in
    let rest = next_below f c n in
    omega (arith, here, rest)

-- as many values have a place below a count as the count says
places_below : (values places : List ℕ) → AreInverse values places → (c : ℕ) → c ≤ length places → below (λ a. nat_lt (get_or places a 0) c) (length places) ≡ c
places_below values places are zero h = none_below (λ a. nat_lt (get_or places a 0) 0) (length places) (λ a l. grind (arith, nat_tests))
places_below values places are (suc c) h =
    let l : c < length places = omega (arith, h) in
    let last : below (λ a. get_or places a 0 == c) (length places) ≡ 1 =
    one_below (λ a. get_or places a 0 == c) (length places) (get_or values c 0) (are.value c l).0 (eq-eqb _ c (are.value c l).1)
    (λ b m ne. ne_eqb (get_or places b 0) c (λ e. ne (sym (are.place b m).1 ∙ ap (λ p. get_or values p 0) e))) in
    let rest = places_below values places are c (omega (arith, h)) in
    let more = next_below (λ a. get_or places a 0) c (length places) in
    omega (arith, last, rest, more)

live_is : (history : List Event) (x n : ℕ) → live_below history x n ≡ below (λ a. is_live history x a) n
live_is history x zero = refl
live_is history x (suc n) = ap (λ m. one (is_live history x n) + m) (live_is history x n)

pub counted : (values places : List ℕ) (history : List Event) (x c : ℕ) → AreInverse values places → c ≤ length places → ((a : ℕ) → a < length places → is_live history x a ≡ nat_lt (get_or places a 0) c) → c ≡ live_below history x (length places)
counted values places history x c are h says = sym (live_is history x (length places) ∙ below_same (λ a. is_live history x a) (λ a. nat_lt (get_or places a 0) c) (length places) says ∙ places_below values places are c h)

-- the values at places below the count are the live ones
pub are_live : (s : Sets) (values places : List ℕ) (x c : ℕ) → x < length s.sizes → get_or s.sizes x 0 ≡ length places → AreInverse values places → c ≤ length places → ((a : ℕ) → a < length places → is_live s.history x a ≡ nat_lt (get_or places a 0) c) → AreLive s x (take c values)
are_live s values places x c there size are h says = record {
  live = λ i l. at i (omega (arith, l, long));
  all = λ a is live.
      (let inside : a < length places = omega (arith, is.value, size) in
      let low : get_or places a 0 < c = tells (get_or places a 0) c (sym (says a inside) ∙ live) in
      (get_or places a 0, omega (arith, low, long), get_or-take c values (get_or places a 0) 0 low ∙ (are.place a inside).1));
  once = λ i j li lj e.
      (let ci : i < c = omega (arith, li, long) in
      let cj : j < c = omega (arith, lj, long) in
      let same = sym (get_or-take c values i 0 ci) ∙ e ∙ get_or-take c values j 0 cj in
      sym (are.value i (omega (arith, ci, h))).1 ∙ ap (λ a. get_or places a 0) same ∙ (are.value j (omega (arith, cj, h))).1);
  counted = long ∙ counted values places s.history x c are h says ∙ ap (live_below s.history x) (sym size);
}
  where
    long : length (take c values) ≡ c
    long = length-take-le c values (omega (arith, h, are.same))

    tells : (a b : ℕ) → nat_lt a b ≡ true → a < b
    tells a b e = grind (arith, nat_tests)

    low_is : (a b : ℕ) → a < b → nat_lt a b ≡ true
    low_is a b e = grind (arith, nat_tests)

    at : (i : ℕ) → i < c → IsValue s x (get_or (take c values) i 0) × IsTrue (is_live s.history x (get_or (take c values) i 0))
    at i l =
        let is = get_or-take c values i 0 l in
        let value = are.value i (omega (arith, l, h)) in (
          record { variable = there; value = omega (arith, is, value.0, size) },
          ap (is_live s.history x) is ∙ says (get_or values i 0) value.0 ∙ low_is (get_or places (get_or values i 0) 0) c (omega (arith, value.1, l)),
        )
