-- What steps have moved from a function's tuples to its variables' values, by place and value: a project or an extend
-- changes the residual costs of all tuples with one value at one place alike.
use Rattle.std.specs.Prelude.{ℕ, zero, suc, ◌+◌, ◌&&◌, List, [], ◌∷◌, length, ℤ, pos, ◌+ℤ◌, neg_ℤ, ◌==◌}
use Rattle.cfn_model.specs.declared.step.Step.TheVariants.{Project, Extend, Lift, CutValue, CutTuple}
use Rattle.cfn_model.specs.declared.step.Event.{Event}
use Rattle.cfn_model.specs.declared.step.Event.TheVariants.{Did, Took, Refused}
use Rattle.cfn_model.specs.Network.{Network, Function, dims}
use Rattle.cfn_model.specs.Sums.{when}

-- What an event moves away from the tuples of f with the value a at place i.
abbrev pub shift_by : Event → ℕ → ℕ → ℕ → ℤ
shift_by (Did (Project g j b m)) f i a = when ((g == f) && ((j == i) && (a == b))) (pos m)
shift_by (Did (Extend g j b m)) f i a = when ((g == f) && ((j == i) && (a == b))) (neg_ℤ (pos m))
shift_by (Did (Lift x m)) f i a = pos 0
shift_by (Did (CutValue x b)) f i a = pos 0
shift_by (Did (CutTuple g c)) f i a = pos 0
shift_by (Took d) f i a = pos 0
shift_by (Refused d) f i a = pos 0

-- What a history has moved away from them.
abbrev pub shift : List Event → ℕ → ℕ → ℕ → ℤ
shift [] f i a = pos 0
shift (event ∷ history) f i a = shift_by event f i a +ℤ shift history f i a

-- The sum of amounts by place and value along a tuple, whose first value stands at place i.
abbrev pub along : (ℕ → ℕ → ℤ) → ℕ → List ℕ → ℤ
along amount i [] = pos 0
along amount i (a ∷ tuple) = amount i a +ℤ along amount (suc i) tuple

-- Where the values of a place begin, when those of all places of a function stand one behind another.
abbrev pub offset : List ℕ → ℕ → ℕ
offset dims zero = 0
offset [] (suc i) = 0
offset (size ∷ dims) (suc i) = size + offset dims i

-- How many places a function's row has, then.
abbrev pub width_of : Network → Function → ℕ
width_of P f = offset (dims P.sizes f.scope) (length f.scope)
