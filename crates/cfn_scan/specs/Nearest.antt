-- The tuple that costs least of those that were looked at along a line.
use Rattle.std.specs.Prelude.{Option, Some, None, if◌then◌else◌}
use Rattle.cfn_scan.specs.declared.line.Nearest.{Nearest}
use Rattle.cfn_scan.specs.declared.scan.Extreme.{Extreme}

abbrev pub tuple_of : Nearest → Option Extreme
tuple_of nearest = if nearest.is_found then Some (record { cost = nearest.cost; cell = nearest.cell }) else None
