use Rattle.std.proofs.Common.{◌≡◌}
use Rattle.cfn_tables.proofs.Amounts.{TakenBelow, one_on}
use Rattle.cfn_tables.proofs.domain.Domain.take_side.Given as goal

-- the values on the side before this one are taken
abbrev pub invariant-loop-b : goal.invariant-loop-b
invariant-loop-b l = record {
  costs : l.self.costs ≡ l.fn.self.costs;
  takers : TakenBelow (one_on l.side) l.fn.self.takers l.self.takers l.b;
}
