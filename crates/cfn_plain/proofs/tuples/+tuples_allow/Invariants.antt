use Rattle.std.proofs.Common.{◌≡◌, ℕ, ◌-◌, ◌<◌, List, take, get_or}
use Rattle.cfn_model.specs.Network.{Fits, arity, dims_at}
use Rattle.cfn_plain.specs.Tuples.{function_in, TupleAllows}
use Rattle.cfn_plain.proofs.tuples.+tuples_allow.Given as goal

-- how many places have no value yet
abbrev pub decreases-tuples_allow : goal.decreases-tuples_allow
decreases-tuples_allow l = arity l.network.now (function_in l.step) - l.place

-- the tuples with a smaller value at the place allow the step
abbrev pub invariant-loop-value : goal.invariant-loop-value
invariant-loop-value l = record {
  fits : Fits (dims_at l.network (function_in l.step)) l.tuple;
  before : take l.place l.tuple ≡ take l.place l.initial.tuple;
  allow : (other : List ℕ) → Fits (dims_at l.network (function_in l.step)) other → take l.place other ≡ take l.place l.initial.tuple → get_or other l.place 0 < l.value → TupleAllows l.network l.history l.k l.step other;
}
