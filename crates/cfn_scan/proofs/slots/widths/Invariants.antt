use Rattle.std.proofs.Common.{◌≡◌}
use Rattle.std.specs.Prelude.{map, take}
use Rattle.cfn_scan.specs.Shifts.{width_of}
use Rattle.cfn_scan.proofs.slots.widths.Given as goal

abbrev pub invariant-loop-f : goal.invariant-loop-f
invariant-loop-f l = l.widths.items ≡ map (width_of l.network) (take l.f l.network.functions)
