use Rattle.cfn_gain.specs.Calls.{Passing}
use Rattle.cfn_gain.specs.Gains.{Gained}
use Rattle.cfn_edac.proofs.looks.levels_of.Given as goal

abbrev pub invariant-loop-x : goal.invariant-loop-x
invariant-loop-x l = record {
  passing : Passing l.initial.store l.store l.limits (Unit {0});
  gained : Gained l.initial.store l.store;
}
