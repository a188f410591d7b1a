-- No assignment of a network of the generator reaches its upper bound.
use Rattle.std.proofs.Common.{ℕ, zero, suc, ◌+◌, ◌-◌, ◌*◌, ◌<◌, ◌≤◌, List, [], ◌∷◌, ◌++◌, map, get_or, arith}
use Rattle.std.specs.Prelude.{sum_by}
use Rattle.std.specs.List.{range_with_len}
use Rattle.std.proofs.lemmas.List.Sums.{sum_by-append, sum_by-cons}
use Rattle.std.proofs.lemmas.Nat.{mod_below}
use Rattle.cfn_model.specs.Network.{Function, cell, cost, dims, entry, restrict}
use Rattle.cfn_gen.specs.Generator.{after, digit, drawn, functions_of, instance, next, pair, pairs, single, singles}

digit_small : (s : ℕ) → digit s ≤ 9
digit_small s = omega (arith, mod_below s 10 (omega arith))

drawn_small : (s n c : ℕ) → get_or (drawn s n) c 0 ≤ 9
unfolding drawn
drawn_small s zero c = omega arith
drawn_small s (suc n) zero = digit_small (next s)
drawn_small s (suc n) (suc c) = drawn_small (next s) n c

module _ (sizes values : List ℕ) where
  abbrev part : Function → ℕ
  part f = entry sizes f (restrict f.scope values)

  -- the functions of a group cost at most 9 each
  group : (f : ℕ → Function) → ((x : ℕ) → part (f x) ≤ 9) → (a n : ℕ) → sum_by part (map f (range_with_len a n)) ≤ 9 * n
  group f each a zero = omega arith
  group f each a (suc n) = omega (arith, sum_by-cons part (f a) (map f (range_with_len (a + 1) n)), each a, group f each (a + 1) n)

  pub whole : (seed n : ℕ) → sum_by part (instance seed n).functions ≤ 9 * functions_of n
  whole seed n =
      let near = after seed (3 * n) in
      let far = after near (9 * (n - 1)) in
      let one = group (single seed) (λ x. drawn_small (after seed (3 * x)) 3 (cell (dims sizes (x ∷ [])) (restrict (x ∷ []) values))) 0 n in
      let two = group (pair near 1) (λ x. drawn_small (after near (9 * x)) 9 (cell (dims sizes (x ∷ (x + 1) ∷ [])) (restrict (x ∷ (x + 1) ∷ []) values))) 0 (n - 1) in
      let three = group (pair far 2) (λ x. drawn_small (after far (9 * x)) 9 (cell (dims sizes (x ∷ (x + 2) ∷ [])) (restrict (x ∷ (x + 2) ∷ []) values))) 0 (n - 2) in
      let parts = sum_by-append part (singles seed n) (pairs near 1 (n - 1) ++ pairs far 2 (n - 2)) in
      let rest = sum_by-append part (pairs near 1 (n - 1)) (pairs far 2 (n - 2)) in
      omega (arith, one, two, three, parts, rest)

pub allowed : (seed n : ℕ) (values : List ℕ) → cost (instance seed n) values < (instance seed n).upper
allowed seed n values = let t = whole (instance seed n).sizes values seed n in omega (arith, t)
