use Rattle.std.proofs.Common.{◌≡◌}
use Rattle.cfn_tables.proofs.Amounts.{GivenBelow, one_on}
use Rattle.cfn_tables.proofs.domain.Domain.give_side.Given as goal

-- the values on the side before this one are given back
abbrev pub invariant-loop-b : goal.invariant-loop-b
invariant-loop-b l = record {
  costs : l.self.costs ≡ l.fn.self.costs;
  takers : GivenBelow (one_on l.side) l.fn.self.takers l.self.takers l.b;
}
