-- The events of a path, by its legs.
use Rattle.std.specs.Prelude.{List, [], ◌∷◌, ◌++◌, map, reverse}
use Rattle.cfn_model.specs.declared.step.Step.{Step}
use Rattle.cfn_model.specs.declared.step.Event.{Event}
use Rattle.cfn_model.specs.declared.step.Event.TheVariants.{Did, Took, Refused}
use Rattle.cfn_proof.specs.declared.path.Side.{Side}
use Rattle.cfn_proof.specs.declared.path.Side.TheVariants.{Holds, Fails}
use Rattle.cfn_proof.specs.declared.path.Leg.{Leg}

-- The event by which a path goes to a side of a split.
abbrev pub event_of : Side → Event
event_of (Holds decision) = Took decision
event_of (Fails decision) = Refused decision

-- The events of a block.
abbrev pub did : List Step → List Event
did block = map (λ s. Did s) block

-- The events of legs, the oldest first: to a side, and then the block behind it.
abbrev pub events_of : List Leg → List Event
events_of [] = []
events_of (leg ∷ legs) = event_of leg.side ∷ (did leg.block ++ events_of legs)

-- The events of a path, the newest first.
abbrev pub path_of : List Step → List Leg → List Event
path_of root legs = reverse (did root ++ events_of legs)
