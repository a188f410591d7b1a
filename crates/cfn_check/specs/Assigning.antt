-- Values of an assignment that are told one after another.
use Rattle.std.specs.Prelude.{◌≡◌, ℕ, List, ◌++◌, Option, Some, None, Result, Ok, Err, MatchBool}
use Rattle.cfn_model.specs.Network.{Network, Fits}
use Rattle.cfn_certtext.specs.declared.event.Item.{Item}
use Rattle.cfn_certtext.specs.declared.event.Item.TheVariants.{Version, Network as Numbers, Lower, NoBest, Best, Value, Tree, Step, Open, Closed, Split, End, Over}
use Rattle.cfn_certtext.specs.declared.event.Event.{Event}
use Rattle.cfn_check.specs.declared.answer.Stop.{Stop}
use Rattle.cfn_check.specs.declared.assignment.Assignment.{Assignment}

-- Of all values these are left to be told: those before them are kept, or all are no assignment.
abbrev pub IsTold : Network → Assignment → List ℕ → List ℕ → Type 0
IsTold P told all left = MatchBool told.possible (all ≡ told.values.items ++ left) (Fits P.sizes all → ⊥)

-- The value that an event tells, if it tells one.
abbrev pub value_of : Item → Option ℕ
value_of (Version version) = None
value_of (Numbers n e upper) = None
value_of (Lower lower) = None
value_of NoBest = None
value_of (Best cost) = None
value_of (Value a) = Some a
value_of Tree = None
value_of (Step step) = None
value_of Open = None
value_of Closed = None
value_of (Split decision) = None
value_of End = None
value_of Over = None

abbrev pub value_in : Result Event Stop → Option ℕ
value_in (Ok event) = value_of event.item
value_in (Err stop) = None
