use Rattle.std.specs.Prelude.{MatchOption}
use Rattle.cfn_branch.specs.Passing.{NoneYet, BestYet}
use Rattle.cfn_branch.proofs.choosing.choose.Given as goal

abbrev pub invariant-loop-x : goal.invariant-loop-x
invariant-loop-x l = MatchOption l.best (NoneYet l.store l.x) (BestYet l.store l.weights l.x)
