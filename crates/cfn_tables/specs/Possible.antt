-- Which events tables can take.
use Rattle.std.specs.Prelude.{◌<◌, ◌^◌}
use Rattle.cfn_model.specs.declared.step.Step.{Step}
use Rattle.cfn_model.specs.declared.step.Step.TheVariants.{Project, Extend, Lift, CutValue, CutTuple}
use Rattle.cfn_model.specs.declared.step.Event.{Event}
use Rattle.cfn_model.specs.declared.step.Event.TheVariants.{Did, Took, Refused}
use Rattle.cfn_model.specs.Network.{Network}
use Rattle.cfn_model.specs.Steps.{IsDecision, InRange}

-- An event's numbers are in range, those of decisions too, and its amount is below 2^64.
abbrev pub IsSmallStep : Step → Type 0
IsSmallStep (Project f i a m) = m < 2 ^ 64
IsSmallStep (Extend f i a m) = m < 2 ^ 64
IsSmallStep (Lift x m) = m < 2 ^ 64
IsSmallStep (CutValue x a) = Unit {0}
IsSmallStep (CutTuple f c) = Unit {0}

abbrev pub IsPossible : Network → Event → Type 0
IsPossible P (Did step) = InRange P step × IsSmallStep step
IsPossible P (Took d) = IsDecision P d
IsPossible P (Refused d) = IsDecision P d
