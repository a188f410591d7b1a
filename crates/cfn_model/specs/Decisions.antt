-- Decisions: which of a variable's values are on a split's first side. The others are on its second.
use Rattle.std.specs.Prelude.{ℕ, Bool, List, slice_index, ◌==◌, nat_le}
use Rattle.cfn_model.specs.declared.step.Decision.{Decision}
use Rattle.cfn_model.specs.declared.step.Decision.TheVariants.{Is, Most}

-- The variable that a decision is about, and the value that it names.
abbrev pub variable_of : Decision → ℕ
variable_of (Is x a) = x
variable_of (Most x v) = x

abbrev pub value_of : Decision → ℕ
value_of (Is x a) = a
value_of (Most x v) = v

-- Whether a value is on the first side: it is the one that is named, or at most that.
abbrev pub keeps : Decision → ℕ → Bool
keeps (Is x a) b = a == b
keeps (Most x v) b = nat_le b v

-- Whether an assignment is on the first side.
abbrev pub holds : Decision → List ℕ → Bool
holds d values = keeps d (slice_index values (variable_of d))
