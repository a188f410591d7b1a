-- What a step asks of one tuple.
use Rattle.std.specs.Prelude.{◌≡◌, ℕ, List, slice_index, pos, ◌+ℤ◌, ◌≤ℤ◌, IsTrue}
use Rattle.cfn_model.specs.declared.step.Step.{Step}
use Rattle.cfn_model.specs.declared.step.Step.TheVariants.{Project, Extend, Lift, CutValue, CutTuple}
use Rattle.cfn_model.specs.declared.step.Event.{Event}
use Rattle.cfn_model.specs.Network.{Network, cell, dims_at}
use Rattle.cfn_model.specs.Sums.{floor, residual, is_live_tuple}

-- The function whose tuples a step speaks of, or 0 where it speaks of none.
abbrev pub function_in : Step → ℕ
function_in (Project f i a m) = f
function_in (Extend f i a m) = 0
function_in (Lift x m) = 0
function_in (CutValue x a) = 0
function_in (CutTuple f c) = f

-- What a projection asks of a tuple that has the value, where it is live; and a cut, of the tuple that is cut.
abbrev pub TupleAllows : Network → List Event → ℕ → Step → List ℕ → Type 0
TupleAllows P history k (Project f i a m) tuple =
    slice_index tuple i ≡ a → IsTrue (is_live_tuple P history f tuple) → pos m ≤ℤ residual P history f tuple
TupleAllows P history k (Extend f i a m) tuple = Unit {0}
TupleAllows P history k (Lift x m) tuple = Unit {0}
TupleAllows P history k (CutValue x a) tuple = Unit {0}
TupleAllows P history k (CutTuple f c) tuple =
    cell (dims_at P f) tuple ≡ c → pos k ≤ℤ (pos (floor P history) +ℤ residual P history f tuple)
