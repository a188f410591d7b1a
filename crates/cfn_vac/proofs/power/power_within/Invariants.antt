use Rattle.std.proofs.Common.{◌≡◌, ℕ, ◌-◌, ◌^◌, ◌<◌, ◌≤◌}
use Rattle.cfn_vac.proofs.power.power_within.Given as goal

abbrev pub invariant-loop-power : goal.invariant-loop-power
invariant-loop-power l = record { is : (k : ℕ) × (l.power ≡ 2 ^ k); some : 0 < l.power; within : l.power ≤ l.most }

abbrev pub decreases-loop-power : goal.decreases-loop-power
decreases-loop-power l = l.most - l.power
