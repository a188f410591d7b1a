use Rattle.std.proofs.Common.{◌≡◌, take}
use Rattle.cfn_wcnf.specs.Clauses.{variables_in}
use Rattle.cfn_wcnf.proofs.clause.Clause.scope.Given as goal

abbrev pub invariant-loop-occurrence : goal.invariant-loop-occurrence
invariant-loop-occurrence l = l.scope.items ≡ variables_in (take l.occurrence-index l.occurrence-items)
