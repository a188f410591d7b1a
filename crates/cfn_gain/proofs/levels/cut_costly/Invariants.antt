use Rattle.cfn_gain.proofs.Leveling.{IsCutting}
use Rattle.cfn_gain.proofs.Closing.{IsClosing}
use Rattle.cfn_gain.specs.Levels.{AddsCuts}
use Rattle.cfn_gain.proofs.levels.cut_costly.Given as goal

abbrev pub invariant-loop-value : goal.invariant-loop-value
invariant-loop-value l = record {
  cutting : IsCutting l.initial.store l.store l.limits l.x l.lacks l.value;
  cuts : AddsCuts l.initial.store l.store l.x;
  closing : IsClosing l.initial.store l.store l.limits l.x l.value;
}
