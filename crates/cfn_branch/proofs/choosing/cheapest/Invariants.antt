use Rattle.cfn_branch.proofs.Least.{CheapestYet}
use Rattle.cfn_branch.proofs.choosing.cheapest.Given as goal

abbrev pub invariant-loop-value : goal.invariant-loop-value
invariant-loop-value l = CheapestYet l.store l.x l.values l.value-index l.best l.least
