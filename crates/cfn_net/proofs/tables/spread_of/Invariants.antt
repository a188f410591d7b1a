use Rattle.std.proofs.Common.{◌≡◌, ◌≤◌, length}
use Rattle.cfn_net.specs.Expanding.{AreSpread}
use Rattle.cfn_net.proofs.tables.spread_of.Given as goal

abbrev pub invariant-loop-table : goal.invariant-loop-table
invariant-loop-table l = record {
  lengths : length l.places.items ≡ l.table-index;
  most : length l.spread.items ≤ l.table-index;
  are : AreSpread l.tables l.table-index l.places.items l.spread.items;
}
