use Rattle.std.proofs.Common.{◌-◌, length}
use Rattle.cfn_gain.specs.Gains.{Gained}
use Rattle.cfn_edac.proofs.Passing.{PassingTo, LevelAt}
use Rattle.cfn_edac.proofs.looks.levels.Given as goal

abbrev pub invariant-loop-x : goal.invariant-loop-x
invariant-loop-x l = record {
  passing : PassingTo (LevelAt l.limits.threshold) l.initial.store l.store l.limits l.x;
  gained : Gained l.initial.store l.store;
}

abbrev pub decreases-loop-x : goal.decreases-loop-x
decreases-loop-x l = length l.network.sizes - l.x
