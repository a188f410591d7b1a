use Rattle.cfn_edac.proofs.Amounts.{IsCheapestYet}
use Rattle.cfn_edac.proofs.choosing.cheapest_by.Given as goal

abbrev pub invariant-loop-i : goal.invariant-loop-i
invariant-loop-i l = IsCheapestYet l.store l.x l.pairs l.values l.i l.best l.least
