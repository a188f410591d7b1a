use Rattle.std.proofs.Common.{◌≡◌, take}
use Rattle.cfn_wcnf.specs.Clauses.{refuting_tuple}
use Rattle.cfn_wcnf.proofs.clause.Clause.refuting_tuple.Given as goal

abbrev pub invariant-loop-occurrence : goal.invariant-loop-occurrence
invariant-loop-occurrence l = l.tuple.items ≡ refuting_tuple (take l.occurrence-index l.occurrence-items)
