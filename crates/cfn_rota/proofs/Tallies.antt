-- Sums over the tallies of a lane's ends.
use Rattle.std.proofs.Common.{◌≡◌, ◌≢◌, ℕ, zero, suc, ◌+◌, ◌≤◌, List, [], ◌∷◌, ◌++◌, set, sym, refl, ap, subst, ⊎_elim, arith}
use mathlib.Core.Option.{some, some-ne-none, some-injective}
use lib.ListN.{get_elem?}
use Rattle.crossbeam_deque.proofs.Lists.{at_set, at_snoc}
use Rattle.cfn_rota.specs.declared.rule.Tally.{Tally}
use Rattle.cfn_rota.specs.Balances.{weigh, total, AreIdle}

module _ {T : Type 0} where
  pub weigh_append : (h : T → ℕ) (xs ys : List T) → weigh h (xs ++ ys) ≡ weigh h xs + weigh h ys
  weigh_append h [] ys = omega arith
  weigh_append h (x ∷ xs) ys = let rest = weigh_append h xs ys in omega (arith, rest)

  pub total_set : (f : Tally T → ℕ) (views : List (Tally T)) (port : ℕ) (v w : Tally T) → get_elem? views port ≡ some v → total f (set views port w) + f v ≡ total f views + f w
  total_set f [] port v w at = absurd (some-ne-none v (sym at))
  total_set f (x ∷ xs) zero v w at = let e = ap f (some-injective x v at) in omega (arith, e)
  total_set f (x ∷ xs) (suc port) v w at = let rest = total_set f xs port v w at in omega (arith, rest)

  pub total_more : (f : Tally T → ℕ) (views : List (Tally T)) (w : Tally T) → total f (views ++ w ∷ []) ≡ total f views + f w
  total_more f [] w = omega arith
  total_more f (x ∷ xs) w = let rest = total_more f xs w in omega (arith, rest)

  pub total_at : (f : Tally T → ℕ) (views : List (Tally T)) (port : ℕ) (v : Tally T) → get_elem? views port ≡ some v → f v ≤ total f views
  total_at f [] port v at = absurd (some-ne-none v (sym at))
  total_at f (x ∷ xs) zero v at = let e = ap f (some-injective x v at) in omega (arith, e)
  total_at f (x ∷ xs) (suc port) v at = let rest = total_at f xs port v at in omega (arith, rest)

  -- where no end has a part, nothing adds up that is 0 of such ends; where one has all parts, only its own adds up
  pub none_totals : (f : Tally T → ℕ) (views : List (Tally T)) → ((port : ℕ) (v : Tally T) → get_elem? views port ≡ some v → v.parts ≡ 0 → f v ≡ 0) → total (λ v. v.parts) views ≡ 0 → total f views ≡ 0
  none_totals f [] idle none = refl
  none_totals f (x ∷ xs) idle none =
      let e = idle 0 x refl (omega (arith, none)) in let rest = none_totals f xs (λ port. idle (suc port)) (omega (arith, none)) in omega (arith, e, rest)

  pub one_totals : (f : Tally T → ℕ) (views : List (Tally T)) (port : ℕ) (v : Tally T) → ((port : ℕ) (v : Tally T) → get_elem? views port ≡ some v → v.parts ≡ 0 → f v ≡ 0)
      → get_elem? views port ≡ some v → total (λ v. v.parts) views ≡ v.parts → total f views ≡ f v
  one_totals f [] port v idle at one = absurd (some-ne-none v (sym at))
  one_totals f (x ∷ xs) zero v idle at one =
      let e = ap f (some-injective x v at) in let n = ap (λ (u : Tally T). u.parts) (some-injective x v at) in
      let rest = none_totals f xs (λ port. idle (suc port)) (omega (arith, n, one)) in omega (arith, e, rest)
  one_totals f (x ∷ xs) (suc port) v idle at one =
      let s = total_at (λ u. u.parts) xs port v at in let none : x.parts ≡ 0 = omega (arith, s, one) in
      let e = idle 0 x refl none in let rest = one_totals f xs port v (λ port. idle (suc port)) at (omega (arith, none, one)) in omega (arith, e, rest)

  pub idle_set : (views : List (Tally T)) (port : ℕ) (w : Tally T) → (w.parts ≡ 0 → (w.pushed ≡ []) × (w.taken ≡ [])) → AreIdle views → AreIdle (set views port w)
  idle_set views port w own idle j u e = ⊎_elim (λ (x : (j ≡ port) × (w ≡ u)). subst (λ (y : Tally T). y.parts ≡ 0 → (y.pushed ≡ []) × (y.taken ≡ [])) x.1 own)
      (λ (x : (j ≢ port) × (get_elem? views j ≡ some u)). idle j u x.1) (at_set views port j w u e)

  pub idle_more : (views : List (Tally T)) (w : Tally T) → (w.parts ≡ 0 → (w.pushed ≡ []) × (w.taken ≡ [])) → AreIdle views → AreIdle (views ++ w ∷ [])
  idle_more views w own idle j u e = ⊎_elim (λ x. idle j u x) (λ (is : w ≡ u). subst (λ (y : Tally T). y.parts ≡ 0 → (y.pushed ≡ []) × (y.taken ≡ [])) is own) (at_snoc views w u j e)
