-- Certificates, and what makes one good.
use Rattle.std.specs.Prelude.{◌≡◌, ℕ, ◌<◌, ◌≤◌, List, [], length, Option, Some, None}
use Rattle.cfn_model.specs.declared.version.Version.{Version}
use Rattle.cfn_model.specs.declared.version.Version.TheVariants.{Second}
use Rattle.cfn_model.specs.Network.{Network, Fits, cost}
use Rattle.cfn_model.specs.Tree.{Tree, Valid, bound}

-- An assignment with its cost.
pub record Solution : Type 0 where
  pub cost : ℕ
  pub values : List ℕ

-- The version of its text, how many variables and functions the network has, its upper bound, the best assignment that
-- is known, a lower bound, and the tree that shows it.
pub record Certificate : Type 0 where
  pub version : Version
  pub variables : ℕ
  pub functions : ℕ
  pub upper : ℕ
  pub best : Option Solution
  pub lower : ℕ
  pub tree : Tree

-- The same certificate in the second version.
abbrev pub in_second : Certificate → Certificate
in_second c = record c { version = Second }

-- The threshold: the cost of the best assignment, or the upper bound where there is none.
abbrev pub threshold_of : ℕ → Option Solution → ℕ
threshold_of upper None = upper
threshold_of upper (Some best) = best.cost

abbrev pub threshold : Certificate → ℕ
threshold c = threshold_of c.upper c.best

-- A solution of the network: an assignment with its cost, which is below the upper bound.
pub record IsSolution (P : Network) (best : Solution) : Type 0 where
  pub below : best.cost < P.upper
  pub fits : Fits P.sizes best.values
  pub cost : cost P best.values ≡ best.cost

abbrev pub IsBest : Network → Option Solution → Type 0
IsBest P None = Unit {0}
IsBest P (Some best) = IsSolution P best

-- A good certificate of a network.
pub record Good (P : Network) (c : Certificate) : Type 0 where
  pub variables : c.variables ≡ length P.sizes
  pub functions : c.functions ≡ length P.functions
  pub upper : c.upper ≡ P.upper
  pub best : IsBest P c.best
  pub valid : Valid P [] c.tree (threshold c)
  pub lower : c.lower ≤ bound P [] c.tree (threshold c)
