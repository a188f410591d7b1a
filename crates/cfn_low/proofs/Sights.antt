-- Views of the word, one of which changes.
use Rattle.std.proofs.Common.{◌≡◌, ℕ, zero, suc, ◌+◌, ◌≤◌, List, [], ◌∷◌, ◌++◌, set, refl, sym, ap, ◌∙◌, subst, inl, inr, arith}
use Rattle.std.specs.Prelude.{min}
use Rattle.std.specs.List.{AllByRecursion}
use mathlib.Core.Option.{some, some-injective, some-ne-none}
use lib.ListN.{get_elem?}
use Rattle.atomic_table.proofs.Lists.{set_else}
use Rattle.cfn_machine.specs.declared.sight.Sight.{Sight}
use Rattle.cfn_machine.specs.Word.{least_best, shares_in, IsSight}
use Rattle.cfn_machine.proofs.CallerLemmas.{best_top}

pub sight_at : (top word : ℕ) (vs : List Sight) (id : ℕ) (v : Sight) → AllByRecursion (IsSight top word) vs → get_elem? vs id ≡ some v → IsSight top word v
sight_at top word [] id v all at = absurd (some-ne-none v (sym at))
sight_at top word (x ∷ xs) zero v all at = subst (IsSight top word) (some-injective x v at) all.0
sight_at top word (x ∷ xs) (suc id) v all at = sight_at top word xs id v all.1 at

pub sights_set : (top word : ℕ) (vs : List Sight) (id : ℕ) (w : Sight) → AllByRecursion (IsSight top word) vs → IsSight top word w → AllByRecursion (IsSight top word) (set vs id w)
sights_set top word [] id w all is = tt
sights_set top word (x ∷ xs) zero w all is = (is, all.1)
sights_set top word (x ∷ xs) (suc id) w all is = (all.0, sights_set top word xs id w all.1 is)

pub sights_more : (top word : ℕ) (vs : List Sight) (w : Sight) → AllByRecursion (IsSight top word) vs → IsSight top word w → AllByRecursion (IsSight top word) (vs ++ w ∷ [])
sights_more top word [] w all is = (is, tt)
sights_more top word (x ∷ xs) w all is = (all.0, sights_more top word xs w all.1 is)

pub lower_sight : (top word lower : ℕ) (v : Sight) → lower ≤ word → IsSight top word v → IsSight top lower v
lower_sight top word lower v le is = record { from = (let a = is.from in omega arith); upto = is.upto; best = is.best; idle = is.idle }

pub sights_lower : (top word lower : ℕ) (vs : List Sight) → lower ≤ word → AllByRecursion (IsSight top word) vs → AllByRecursion (IsSight top lower) vs
sights_lower top word lower [] le all = tt
sights_lower top word lower (x ∷ xs) le all = (lower_sight top word lower x le all.0, sights_lower top word lower xs le all.1)

-- the least is at most each
pub best_at : (top : ℕ) (vs : List Sight) (id : ℕ) (v : Sight) → get_elem? vs id ≡ some v → least_best top vs ≤ v.best
best_at top [] id v at = absurd (some-ne-none v (sym at))
best_at top (x ∷ xs) zero v at = let e = ap (λ (s : Sight). s.best) (some-injective x v at) in omega (arith, e)
best_at top (x ∷ xs) (suc id) v at = let rest = best_at top xs id v at in omega (arith, rest)

-- with a view in place of one that keeps no less, the least is the lesser of the two
pub best_set : (top : ℕ) (vs : List Sight) (id : ℕ) (v w : Sight) → get_elem? vs id ≡ some v → w.best ≤ v.best → least_best top (set vs id w) ≡ min w.best (least_best top vs)
best_set top [] id v w at le = absurd (some-ne-none v (sym at))
best_set top (x ∷ xs) zero v w at le = let e = ap (λ (s : Sight). s.best) (some-injective x v at) in omega (arith, e, le)
best_set top (x ∷ xs) (suc id) v w at le = let rest = best_set top xs id v w at le in omega (arith, rest)

-- a view that keeps nothing below the top takes only its own price away
pub best_spent : (top : ℕ) (vs : List Sight) (id : ℕ) (v w : Sight) → get_elem? vs id ≡ some v → w.best ≡ top → min v.best (least_best top (set vs id w)) ≡ least_best top vs
best_spent top [] id v w at none = absurd (some-ne-none v (sym at))
best_spent top (x ∷ xs) zero v w at none = let e = ap (λ (s : Sight). s.best) (some-injective x v at) in let t = best_top top xs in omega (arith, e, none, t)
best_spent top (x ∷ xs) (suc id) v w at none = let rest = best_spent top xs id v w at none in omega (arith, rest)

pub best_more : (top : ℕ) (vs : List Sight) (w : Sight) → w.best ≡ top → least_best top (vs ++ w ∷ []) ≡ least_best top vs
best_more top [] w none = omega (arith, none)
best_more top (x ∷ xs) w none = let rest = best_more top xs w none in omega (arith, rest)

pub shares_set : (vs : List Sight) (id : ℕ) (v w : Sight) → get_elem? vs id ≡ some v → shares_in (set vs id w) + v.shares ≡ shares_in vs + w.shares
shares_set [] id v w at = absurd (some-ne-none v (sym at))
shares_set (x ∷ xs) zero v w at = let e = ap (λ (s : Sight). s.shares) (some-injective x v at) in omega (arith, e)
shares_set (x ∷ xs) (suc id) v w at = let rest = shares_set xs id v w at in omega (arith, rest)

pub shares_at : (vs : List Sight) (id : ℕ) (v : Sight) → get_elem? vs id ≡ some v → v.shares ≤ shares_in vs
shares_at [] id v at = absurd (some-ne-none v (sym at))
shares_at (x ∷ xs) zero v at = let e = ap (λ (s : Sight). s.shares) (some-injective x v at) in omega (arith, e)
shares_at (x ∷ xs) (suc id) v at = let rest = shares_at xs id v at in omega (arith, rest)

pub shares_more : (vs : List Sight) (w : Sight) → shares_in (vs ++ w ∷ []) ≡ shares_in vs + w.shares
shares_more [] w = omega arith
shares_more (x ∷ xs) w = let rest = shares_more xs w in omega (arith, rest)

-- where no share is, nothing is kept; and where one has all shares, the least is what it keeps
pub none_keeps : (top word : ℕ) (vs : List Sight) → AllByRecursion (IsSight top word) vs → shares_in vs ≡ 0 → least_best top vs ≡ top
none_keeps top word [] all none = refl
none_keeps top word (x ∷ xs) all none =
    let e = all.0.idle (omega (arith, none)) in let rest = none_keeps top word xs all.1 (omega (arith, none)) in omega (arith, e, rest)

pub one_keeps : (top word : ℕ) (vs : List Sight) (id : ℕ) (v : Sight) → AllByRecursion (IsSight top word) vs → get_elem? vs id ≡ some v → shares_in vs ≡ v.shares → least_best top vs ≡ v.best
one_keeps top word [] id v all at one = absurd (some-ne-none v (sym at))
one_keeps top word (x ∷ xs) zero v all at one =
    let e = ap (λ (s : Sight). s.best) (some-injective x v at) in let n = ap (λ (s : Sight). s.shares) (some-injective x v at) in
    let rest = none_keeps top word xs all.1 (omega (arith, n, one)) in let b = all.0.best in omega (arith, e, rest, b)
one_keeps top word (x ∷ xs) (suc id) v all at one =
    let s = shares_at xs id v at in let none : x.shares ≡ 0 = omega (arith, s, one) in
    let e = all.0.idle none in let rest = one_keeps top word xs id v all.1 at (omega (arith, none, one)) in let t = best_top top xs in omega (arith, e, rest, t)

pub set_at : (vs : List Sight) (id : ℕ) (v w : Sight) → get_elem? vs id ≡ some v → get_elem? (set vs id w) id ≡ some w
set_at [] id v w at = absurd (some-ne-none v (sym at))
set_at (x ∷ xs) zero v w at = refl
set_at (x ∷ xs) (suc id) v w at = set_at xs id v w at

-- the shares of two are no more than there are
pub two_shares : (vs : List Sight) (id other : ℕ) (v w : Sight) → (other ≡ id → ⊥) → get_elem? vs id ≡ some v → get_elem? vs other ≡ some w → v.shares + w.shares ≤ shares_in vs
two_shares vs id other v w different at there =
    let none : Sight = record { best = 0; seen = 0; shares = 0 } in
    let one = shares_set vs id v none at in
    let two = shares_at (set vs id none) other w (set_else vs id other none different ∙ there) in
    omega (arith, one, two)
