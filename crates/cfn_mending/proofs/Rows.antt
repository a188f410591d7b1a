-- Small trees whose heights, joins and kept parts are known, as theorems.
use Rattle.std.proofs.Common.{◌≡◌, ℕ, List, [], ◌∷◌, ◌++◌, Some, None, true, refl, sym, subst, arith, lit<}
use Rattle.std.proofs.lemmas.Int.{ints}
use Rattle.std.specs.Prelude.{pos, ◌≤ℤ◌}
use Rattle.cfn_model.specs.declared.step.Step.{Step}
use Rattle.cfn_model.specs.declared.step.Step.TheVariants.{Lift}
use Rattle.cfn_model.specs.declared.step.Decision.TheVariants.{Is}
use Rattle.cfn_model.specs.Steps.{Allowed}
use Rattle.cfn_model.specs.Tree.{Tree, Open, Closed, Split}
use Rattle.cfn_model.proofs.CallerLemmas.{tiny}
use Rattle.cfn_mending.specs.Keeping.{Kept}
use Rattle.cfn_mending.specs.Joining.{Test, height, join}

abbrev lift : ℕ → List Step
lift m = Lift 0 m ∷ []

-- a split behind a block, whose sides are these
abbrev split : List Step → Tree → Tree → Tree
split block first second = Split block (Is 0 0) first second

-- a test for rows, in which all splits are one
abbrev always : Test
always block d more e = true

-- the least that is lifted on the way to an open leaf, and nothing where none is open
pub heights : (height (split (lift 1) (Open (lift 2)) (Open [])) ≡ Some 1) × (height (split (lift 1) (Closed []) (Open (lift 2))) ≡ Some 3) × (height (Closed (lift 5)) ≡ None)
heights = (refl, refl, refl)

-- the higher one stands, on whichever side it is; a closed one is above all
pub higher_stands : (join always (Open (lift 2)) (Open (lift 3)) ≡ Open (lift 3)) × (join always (Open (lift 3)) (Open (lift 2)) ≡ Open (lift 3)) × (join always (Open (lift 9)) (Closed []) ≡ Closed [])
    × (join always (Closed []) (Open (lift 9)) ≡ Closed [])
higher_stands = (refl, refl, refl, refl)

-- of two that are as high the one with more nodes stands, and the first where they have as many
pub larger_stands : (join always (Open []) (split [] (Open []) (Open [])) ≡ split [] (Open []) (Open [])) × (join always (split [] (Open []) (Open [])) (Open []) ≡ split [] (Open []) (Open []))
    × (join always (Open (lift 2)) (Open (Lift 1 2 ∷ [])) ≡ Open (lift 2))
larger_stands = (refl, refl, refl)

-- the sides of one split are joined each for itself
pub sides_joined : join always (split [] (Open (lift 1)) (Open [])) (split [] (Open []) (Closed [])) ≡ split [] (Open (lift 1)) (Closed [])
sides_joined = refl

-- of a block whose first step is not allowed nothing is kept: no value has a cost that could be lifted
first_of : (step : Step) (front rest : List Step) → Lift 0 2 ∷ [] ≡ step ∷ (front ++ rest) → Lift 0 2 ≡ step
first_of step front rest is = cc

not_lifted : Allowed tiny [] 10 (Lift 0 2) → ⊥
not_lifted may = let h : pos 2 ≤ℤ pos 0 = may.2 0 (lit< tt) refl in absurd (omega (arith, ints, h))

pub lift_is_not_kept : (new : Tree) → Kept tiny [] 10 (Open (lift 2)) new → new ≡ Open []
lift_is_not_kept new ([], rest, is, at) = at
lift_is_not_kept new (step ∷ front, rest, is, at) = absurd (not_lifted (subst (λ (s : Step). Allowed tiny [] 10 s) (sym (first_of step front rest is.split)) is.runs.0))
