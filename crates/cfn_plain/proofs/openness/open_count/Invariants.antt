use Rattle.std.proofs.Common.{◌≡◌, ◌≤◌}
use Rattle.cfn_model.specs.Network.{variable_at}
use Rattle.cfn_consistency.specs.Openness.{is_open, count_below}
use Rattle.cfn_plain.proofs.openness.open_count.Given as goal

-- so many of the variables before are open
abbrev pub invariant-loop-x : goal.invariant-loop-x
invariant-loop-x l = record {
  counted : l.count ≡ count_below (λ i. is_open l.network l.history (variable_at l.network l.f i)) l.x-index;
  few : l.count ≤ l.x-index;
}
