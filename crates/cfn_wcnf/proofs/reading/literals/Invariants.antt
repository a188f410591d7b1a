use Rattle.std.proofs.Common.{◌≡◌, length}
use Rattle.cfn_wcnf.specs.Gathering.{gathered_at}
use Rattle.cfn_wcnf.proofs.reading.literals.Given as goal

abbrev pub invariant-loop-number : goal.invariant-loop-number
invariant-loop-number l =
    (gathered_at l.clause.variables l.cells l.clause.occurrences l.tokens ≡ gathered_at l.fn.clause.variables l.cells l.fn.clause.occurrences l.fn.tokens) × (l.clause.variables ≡ l.fn.clause.variables)

abbrev pub decreases-loop-number : goal.decreases-loop-number
decreases-loop-number l = length l.tokens.words
