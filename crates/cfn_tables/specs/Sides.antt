-- The values on one side of a decision.
use Rattle.std.specs.Prelude.{ℕ, Bool, not}
use Rattle.cfn_model.specs.Decisions.{variable_of, keeps}
use Rattle.cfn_tables.specs.declared.side.Side.{Side}
use Rattle.cfn_tables.specs.declared.side.Side.TheVariants.{First, Second}

-- The variable of a side's decision.
abbrev pub side_variable : Side → ℕ
side_variable (First d) = variable_of d
side_variable (Second d) = variable_of d

-- Whether a value is on a side.
abbrev pub is_on : Side → ℕ → Bool
is_on (First d) a = keeps d a
is_on (Second d) a = not (keeps d a)
