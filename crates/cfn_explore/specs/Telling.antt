-- What is told of a search while it runs.
use Rattle.std.specs.Prelude.{◌≡◌, ℕ, ◌<◌, ◌≤◌, List, Option, IfSome}
use Rattle.cfn_model.specs.declared.report.Row.{Row}
use Rattle.cfn_model.specs.Network.{Network, Fits, cost}

-- A number is the cost of an assignment, and below the upper bound of the network.
pub record IsPrice (P : Network) (u : ℕ) : Type 0 where
  pub below : u < P.upper
  pub reached : (values : List ℕ) × Fits P.sizes values × (cost P values ≡ u)

-- Bounds hold: no assignment costs less than the lower one, and the upper one, where there is one, is the cost of an assignment.
pub record AreBounds (P : Network) (row : Row) : Type 0 where
  pub lower : (values : List ℕ) → Fits P.sizes values → row.lower ≤ cost P values
  pub upper : IfSome row.upper (IsPrice P)
