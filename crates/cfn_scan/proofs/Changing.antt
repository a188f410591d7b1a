-- A list of which the items so far are changed.
use Rattle.std.proofs.Common.{◌≡◌, ℕ, zero, suc, ◌+◌, ◌<◌, List, [], ◌∷◌, ◌++◌, length, map, take, drop, get_or, slice_set, refl, ap, arith}

module _ (f : ℕ → ℕ) where
  -- the next item is as it was
  pub next : (xs : List ℕ) (i : ℕ) → get_or (map f (take i xs) ++ drop i xs) i 0 ≡ get_or xs i 0
  next [] zero = refl
  next [] (suc i) = refl
  next (x ∷ xs) zero = refl
  next (x ∷ xs) (suc i) = next xs i

  -- once it is changed the items so far are one more
  pub change : (xs : List ℕ) (i n : ℕ) → n ≡ i + 1 → i < length xs → slice_set (map f (take i xs) ++ drop i xs) i (f (get_or xs i 0)) ≡ map f (take n xs) ++ drop n xs
  change [] i n is there = absurd (omega (arith, there))
  change (x ∷ xs) zero zero is there = absurd (omega (arith, is))
  change (x ∷ xs) zero (suc zero) is there = refl
  change (x ∷ xs) zero (suc (suc n)) is there = absurd (omega (arith, is))
  change (x ∷ xs) (suc i) zero is there = absurd (omega (arith, is))
  change (x ∷ xs) (suc i) (suc n) is there = ap (λ l. f x ∷ l) (change xs i n (omega (arith, is)) (omega (arith, there)))

  -- all of them
  pub whole : (xs : List ℕ) (n : ℕ) → n ≡ length xs → map f (take n xs) ++ drop n xs ≡ map f xs
  whole [] zero is = refl
  whole [] (suc n) is = absurd (omega (arith, is))
  whole (x ∷ xs) zero is = absurd (omega (arith, is))
  whole (x ∷ xs) (suc n) is = ap (λ l. f x ∷ l) (whole xs n (omega (arith, is)))
