use Rattle.std.proofs.Common.{◌-◌}
use Rattle.cfn_store.specs.Standing.{history}
use Rattle.cfn_derivation.proofs.Costing.{CostTo}
use Rattle.cfn_derivation.proofs.costs.costs_along.Given as goal

abbrev pub invariant-loop-other : goal.invariant-loop-other
invariant-loop-other l = CostTo l.store.network (history l.store) l.f l.place l.value (1 - l.place) l.q l.other-items l.other-index
