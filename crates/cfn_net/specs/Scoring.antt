-- An assignment with its cost, kept beside the network that it is of.
use Rattle.std.specs.Prelude.{◌≡◌, ℕ, Bool, true, false, List, length, Option, Some, None, IsTrue, IsFalse}
use Rattle.cfn_model.specs.Network.{Network, Fits, cost}
use Rattle.cfn_model.specs.Certificate.{Solution}

-- What a buffer is bound to, and the assignment with its cost that it holds, if it holds one.
pub record Scoring : Type 0 where
  pub network : Network
  pub held : Option Solution

-- What is held has a value for each variable in its domain, and its cost is the network's.
abbrev pub IsPriced : Network → Option Solution → Type 0
IsPriced P None = Unit {0}
IsPriced P (Some held) = Fits P.sizes held.values × (cost P held.values ≡ held.cost)

-- What a flag, a price and values hold.
abbrev pub held_of : Bool → ℕ → List ℕ → Option Solution
held_of true price values = Some (record { cost = price; values = values })
held_of false price values = None

-- A buffer has room for a value of each variable. Where it is filled, its values fit and have its price, and where it
-- is empty, its price is the upper bound.
pub record IsKept (P : Network) (filled : Bool) (price : ℕ) (values : List ℕ) : Type 0 where
  pub lengths : length values ≡ length P.sizes
  pub fits : IsTrue filled → Fits P.sizes values
  pub cost : IsTrue filled → cost P values ≡ price
  pub empty : IsFalse filled → price ≡ P.upper
