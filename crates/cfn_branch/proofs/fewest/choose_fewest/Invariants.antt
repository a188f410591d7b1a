use Rattle.std.specs.Prelude.{MatchOption}
use Rattle.cfn_branch.specs.Passing.{NoneYet, FewestYet}
use Rattle.cfn_branch.proofs.fewest.choose_fewest.Given as goal

abbrev pub invariant-loop-x : goal.invariant-loop-x
invariant-loop-x l = MatchOption l.best (NoneYet l.store l.x) (FewestYet l.store l.x)
