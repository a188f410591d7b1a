-- The numbers of a step that fit 32 bits.
use Rattle.std.specs.Prelude.{◌<◌, ◌^◌}
use Rattle.cfn_model.specs.declared.step.Step.{Step}
use Rattle.cfn_model.specs.declared.step.Step.TheVariants.{Project, Extend, Lift, CutValue, CutTuple}

-- Each number but the amount is below 2^32.
abbrev pub HasSmallNumbers : Step → Type 0
HasSmallNumbers (Project f i a m) = (f < 2 ^ 32) × (i < 2 ^ 32) × (a < 2 ^ 32)
HasSmallNumbers (Extend f i a m) = (f < 2 ^ 32) × (i < 2 ^ 32) × (a < 2 ^ 32)
HasSmallNumbers (Lift x m) = x < 2 ^ 32
HasSmallNumbers (CutValue x a) = (x < 2 ^ 32) × (a < 2 ^ 32)
HasSmallNumbers (CutTuple f c) = (f < 2 ^ 32) × (c < 2 ^ 32)
