use Rattle.std.proofs.Common.{◌≡◌}
use Rattle.cfn_model.specs.Network.{dims_at}
use Rattle.cfn_scan.specs.Shifts.{offset}
use Rattle.cfn_scan.proofs.slots.width.Given as goal

abbrev pub invariant-loop-x : goal.invariant-loop-x
invariant-loop-x l = l.width ≡ offset (dims_at l.network l.f) l.x-index
