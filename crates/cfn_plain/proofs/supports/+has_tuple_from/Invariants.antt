use Rattle.std.proofs.Common.{◌≡◌, ℕ, ◌-◌, ◌<◌, List, take, get_or}
use Rattle.cfn_model.specs.Network.{Fits, arity, dims_at}
use Rattle.cfn_plain.specs.Supports.{IsSought}
use Rattle.cfn_plain.proofs.supports.+has_tuple_from.Given as goal

-- how many places have no value yet
abbrev pub decreases-has_tuple_from : goal.decreases-has_tuple_from
decreases-has_tuple_from l = arity l.network.now l.sought.function - l.place

-- no tuple with a smaller value at the place is one
abbrev pub invariant-loop-value : goal.invariant-loop-value
invariant-loop-value l = record {
  fits : Fits (dims_at l.network l.sought.function) l.tuple;
  before : take l.place l.tuple ≡ take l.place l.initial.tuple;
  none : (other : List ℕ) → Fits (dims_at l.network l.sought.function) other → take l.place other ≡ take l.place l.initial.tuple → get_or other l.place 0 < l.value → IsSought l.network l.history l.sought other → ⊥;
}
