-- An exact history is exact at its end and before, and its numbers are in range.
use Rattle.std.proofs.Common.{List, [], ◌∷◌, ◌++◌}
use Rattle.cfn_model.specs.declared.step.Event.{Event}
use Rattle.cfn_model.specs.declared.step.Event.TheVariants.{Did, Took, Refused}
use Rattle.cfn_model.specs.Network.{Network}
use Rattle.cfn_model.specs.Steps.{AllInRange, EventInRange}
use Rattle.cfn_scan.specs.Exact.{InPlace, AllInPlace, IsExact, IsExactAlong}

-- steps that are in place are in range
in_range : (P : Network) (event : Event) → InPlace P event → EventInRange P event
in_range P (Did step) place = place
in_range P (Took d) place = tt {0}
in_range P (Refused d) place = tt {0}

pub all_in_range : (P : Network) (history : List Event) → AllInPlace P history → AllInRange P history
all_in_range P [] place = tt {0}
all_in_range P (event ∷ history) place = (in_range P event place.0, all_in_range P history place.1)

-- an exact history is exact at its end, and so are its earlier parts
pub exact_here : (P : Network) (history : List Event) → IsExactAlong P history → IsExact P history
exact_here P [] exact = exact
exact_here P (event ∷ history) exact = exact.0

pub exact_behind : (P : Network) (later earlier : List Event) → IsExactAlong P (later ++ earlier) → IsExactAlong P earlier
exact_behind P [] earlier exact = exact
exact_behind P (event ∷ later) earlier exact = exact_behind P later earlier exact.1
