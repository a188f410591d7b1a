use Rattle.std.proofs.Common.{ℕ, ◌<◌}
use Rattle.std.specs.Prelude.{slice_index}
use Rattle.cfn_consistency.specs.Virtual.{HasCheapTuple}
use Rattle.cfn_store.specs.Standing.{history}
use Rattle.cfn_derivation.proofs.costs.all_cost_less.Given as goal

abbrev pub invariant-loop-value : goal.invariant-loop-value
invariant-loop-value l = (k : ℕ) → k < l.value-index → HasCheapTuple l.store.network (history l.store) l.f l.place (slice_index l.value-items k) l.q
