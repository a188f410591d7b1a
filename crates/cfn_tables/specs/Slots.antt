-- What was shifted at each value of each place.
use Rattle.std.specs.Prelude.{ℕ, ◌+◌, ◌&&◌, List, [], ◌∷◌, take, ℤ, pos, neg_ℤ, ◌+ℤ◌, ◌==◌}
use Rattle.cfn_model.specs.declared.step.Step.TheVariants.{Project, Extend, Lift, CutValue, CutTuple}
use Rattle.cfn_model.specs.declared.step.Event.{Event}
use Rattle.cfn_model.specs.declared.step.Event.TheVariants.{Did, Took, Refused}
use Rattle.cfn_model.specs.Network.{Network, dims_at}
use Rattle.cfn_model.specs.Sums.{when}

-- How many slots places of these sizes have, one for each value of each place.
abbrev pub slots : List ℕ → ℕ
slots [] = 0
slots (size ∷ sizes) = size + slots sizes

-- The slot of the value a at place i: those of the places before it stand before it.
abbrev pub slot : List ℕ → ℕ → ℕ → ℕ
slot sizes i a = slots (take i sizes) + a

-- What an event shifts at a slot of f.
abbrev pub shifted_by : Network → Event → ℕ → ℕ → ℤ
shifted_by P (Did (Project g i a m)) f n = when ((g == f) && (slot (dims_at P g) i a == n)) (pos m)
shifted_by P (Did (Extend g i a m)) f n = when ((g == f) && (slot (dims_at P g) i a == n)) (neg_ℤ (pos m))
shifted_by P (Did (Lift x m)) f n = pos 0
shifted_by P (Did (CutValue x a)) f n = pos 0
shifted_by P (Did (CutTuple g c)) f n = pos 0
shifted_by P (Took d) f n = pos 0
shifted_by P (Refused d) f n = pos 0

-- What was shifted at a slot of f: what was projected from it, less what was extended to it.
abbrev pub shifted : Network → List Event → ℕ → ℕ → ℤ
shifted P [] f n = pos 0
shifted P (event ∷ history) f n = shifted_by P event f n +ℤ shifted P history f n
