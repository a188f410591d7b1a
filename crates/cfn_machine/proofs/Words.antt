-- Views of the word.
use Rattle.std.proofs.Common.{ℕ, ◌≤◌, List, [], ◌∷◌, arith}
use Rattle.cfn_machine.specs.declared.sight.Sight.{Sight}
use Rattle.cfn_machine.specs.Word.{least_best}

pub best_top : (top : ℕ) (sights : List Sight) → least_best top sights ≤ top
best_top top [] = omega arith
best_top top (sight ∷ sights) = let rest = best_top top sights in omega (arith, rest)
