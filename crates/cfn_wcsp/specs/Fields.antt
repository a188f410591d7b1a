-- The checks of each field, and the numbers that pass them.
use Rattle.std.specs.Prelude.{ℕ, ◌<◌, ◌≤◌, ℤ, Option}
use Rattle.cfn_model.specs.declared.limits.TheConstants.{GREATEST, MOST_VARIABLES, MOST_VALUES, MOST_FUNCTIONS, MOST_CELLS}
use Rattle.cfn_model.specs.declared.reading.Kind.{Kind}
use Rattle.cfn_model.specs.Reading.{check_variables, check_size, check_functions, check_cost, check_domain, check_default, check_value}
use Rattle.cfn_wcsp.specs.declared.field.Field.{Field}
use Rattle.cfn_wcsp.specs.declared.field.Field.TheVariants.{Variables, Widest, Functions, Cost, Domain, Default, Value}

-- The checks of a field.
abbrev pub check_of : Field → ℤ → Option Kind
check_of Variables z = check_variables z
check_of Widest z = check_size z
check_of Functions z = check_functions z
check_of Cost z = check_cost z
check_of Domain z = check_domain z
check_of (Default all_cells) z = check_default all_cells z
check_of (Value size) z = check_value size z

-- Where numbers lie that pass the checks of their field, and the cells that a default cost is checked with.
abbrev pub InRange : Field → ℕ → Type 0
InRange Variables n = (0 < n) × (n ≤ MOST_VARIABLES)
InRange Widest n = 0 < n
InRange Functions n = n ≤ MOST_FUNCTIONS
InRange Cost n = n ≤ GREATEST
InRange Domain n = (0 < n) × (n ≤ MOST_VALUES)
InRange (Default all_cells) n = (n ≤ GREATEST) × (all_cells ≤ MOST_CELLS)
InRange (Value size) n = n < size
