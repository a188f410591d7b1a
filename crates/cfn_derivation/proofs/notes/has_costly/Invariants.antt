use Rattle.cfn_store.specs.Standing.{history}
use Rattle.cfn_derivation.proofs.Noting.{NoneCostlyTo}
use Rattle.cfn_derivation.proofs.notes.has_costly.Given as goal

abbrev pub invariant-loop-value : goal.invariant-loop-value
invariant-loop-value l = NoneCostlyTo l.store.network (history l.store) l.q l.x l.value-items l.value-index
