use Rattle.std.proofs.Common.{◌≡◌, ◌≤◌}
use Rattle.cfn_model.specs.Sums.{is_live}
use Rattle.cfn_consistency.specs.Openness.{count_below}
use Rattle.cfn_plain.proofs.openness.live_count.Given as goal

-- so many of the smaller values are live
abbrev pub invariant-loop-value : goal.invariant-loop-value
invariant-loop-value l = record {
  counted : l.count ≡ count_below (is_live l.history l.x) l.value;
  few : l.count ≤ l.value;
}
