-- Events by kind: those that take values, and the steps among them.
use Rattle.std.specs.Prelude.{List, [], ◌∷◌, Option, Some, None}
use Rattle.cfn_model.specs.declared.step.Step.{Step}
use Rattle.cfn_model.specs.declared.step.Step.TheVariants.{Project, Extend, Lift, CutValue, CutTuple}
use Rattle.cfn_model.specs.declared.step.Event.{Event}
use Rattle.cfn_model.specs.declared.step.Event.TheVariants.{Did, Took, Refused}

-- The events of a history that take values.
abbrev pub removals : List Event → List Event
removals [] = []
removals (Did (Project f i a m) ∷ history) = removals history
removals (Did (Extend f i a m) ∷ history) = removals history
removals (Did (Lift x m) ∷ history) = removals history
removals (Did (CutValue x a) ∷ history) = Did (CutValue x a) ∷ removals history
removals (Did (CutTuple f c) ∷ history) = removals history
removals (Took d ∷ history) = Took d ∷ removals history
removals (Refused d ∷ history) = Refused d ∷ removals history

-- The steps among events, the oldest first; and that all events are steps.
abbrev pub steps_in : List Event → List Step
steps_in [] = []
steps_in (Did step ∷ events) = step ∷ steps_in events
steps_in (Took d ∷ events) = steps_in events
steps_in (Refused d ∷ events) = steps_in events

abbrev pub AllSteps : List Event → Type 0
AllSteps [] = Unit {0}
AllSteps (Did step ∷ events) = AllSteps events
AllSteps (Took d ∷ events) = ⊥
AllSteps (Refused d ∷ events) = ⊥

-- Events of which the first was taken out. Where there is none, there are no others.
abbrev pub with_first : Option Event → List Event → List Event
with_first None others = []
with_first (Some event) others = event ∷ others
