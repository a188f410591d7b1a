-- How many steps enforcing makes at a node.
use Rattle.std.specs.Prelude.{ℕ, ◌+◌, ◌*◌, min, List, sum_by, slice_index}
use Rattle.cfn_model.specs.Network.{Network, Function}

-- How many values some variables have.
abbrev pub values_of : Network → List ℕ → ℕ
values_of P scope = sum_by (slice_index P.sizes) scope

-- How many values all variables have, and how many stand at the places of functions.
abbrev pub variable_values : Network → ℕ
variable_values P = sum_by (λ size. size) P.sizes

abbrev pub place_values : Network → ℕ
place_values P = sum_by (λ (f : Function). values_of P f.scope) P.functions

-- At most 1,024, and four for each value of a variable and of a place of a function; and at most 2^20.
abbrev pub step_limit : Network → ℕ
step_limit P = min 1048576 (1024 + 4 * (variable_values P + place_values P))
