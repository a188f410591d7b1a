-- A network of the generator that is being built.
use Rattle.std.specs.Prelude.{◌≡◌, ℕ, ◌*◌, ◌≤◌, List, ◌++◌, length, replicate}
use Rattle.cfn_model.specs.Network.{Function, Network}
use Rattle.cfn_net.specs.Building.{all_cells}

-- The network has so many variables, with three values each; every draw is below its upper bound, and no function has more
-- than nine cells.
pub record IsTrial (n : ℕ) (P : Network) : Type 0 where
  pub sizes : P.sizes ≡ replicate n 3
  pub upper : 9 ≤ P.upper
  pub cells : all_cells P ≤ 9 * length P.functions

-- The network with some more functions at the end.
abbrev pub with_functions : Network → List Function → Network
with_functions P fs = record P { functions = P.functions ++ fs }
