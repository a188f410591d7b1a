use Rattle.cfn_store.specs.Standing.{history}
use Rattle.cfn_scan.specs.Nearest.{tuple_of}
use Rattle.cfn_store.proofs.Least.{FoundTo}
use Rattle.cfn_store.proofs.store.Store.least_along.Given as goal

abbrev pub invariant-loop-value : goal.invariant-loop-value
invariant-loop-value l = FoundTo l.self.network (history l.self) l.f l.place l.initial.value l.other l.value-items l.value-index (tuple_of l.nearest)
