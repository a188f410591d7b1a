-- A scope that is being read, and the stamps by which it knows its variables.
use Rattle.std.specs.Prelude.{◌≡◌, ℕ, ◌<◌, ◌≤◌, List, length, slice_index, ◌==◌, ℤ, Option}
use Rattle.std.specs.List.{list_any}
use Rattle.cfn_model.specs.declared.reading.Kind.{Kind}
use Rattle.cfn_model.specs.Network.{cells, dims}
use Rattle.cfn_model.specs.Reading.{check_variable}
use Rattle.cfn_net.specs.Building.{IsScope, AreSizes}

-- The domain sizes of all variables, the variables of the scope so far, and which scope it is, counted from 1.
pub record Partial : Type 0 where
  pub sizes : List ℕ
  pub variables : List ℕ
  pub number : ℕ

-- The domain sizes of the scope's variables.
abbrev pub scope_dims : Partial → List ℕ
scope_dims scope = dims scope.sizes scope.variables

-- The checks of the scope's next variable.
abbrev pub check_next : Partial → ℤ → Option Kind
check_next scope z = check_variable scope.sizes scope.variables z

-- The variables of the scope are those that its number is stamped on, and no stamp is of a later scope.
pub record Keeps (sizes stamps : List ℕ) (number : ℕ) (variables : List ℕ) (so_far : ℕ) : Type 0 where
  pub domains : AreSizes sizes
  pub each : length stamps ≡ length sizes
  pub counted : 0 < number
  pub earlier : (x : ℕ) → slice_index stamps x ≤ number
  pub stamped : (x : ℕ) → list_any (λ y. y == x) variables ≡ (slice_index stamps x == number)
  pub scope : IsScope sizes variables
  pub cells : so_far ≡ cells (dims sizes variables)
