use Rattle.std.proofs.Common.{◌-◌, length}
use Rattle.cfn_dac.proofs.Trimming.{IsTrimming, IsCuttingIn}
use Rattle.cfn_dac.proofs.trim.trim.Given as goal

abbrev pub invariant-loop-cell : goal.invariant-loop-cell
invariant-loop-cell l = record {
  trimming : IsTrimming l.initial.store l.store l.limits l.lacks;
  cutting : IsCuttingIn l.initial.store l.store l.limits.threshold l.f;
}

abbrev pub decreases-loop-cell : goal.decreases-loop-cell
decreases-loop-cell l = l.limits.steps - length l.store.block
