use Rattle.std.proofs.Common.{◌≡◌, ◌+◌, ◌-◌, ◌≤◌, length}
use Rattle.std.specs.Prelude.{filter}
use Rattle.std.specs.List.{range_with_len}
use Rattle.cfn_model.specs.Network.{function_at}
use Rattle.cfn_wcspwrite.specs.Canonical.{differs}
use Rattle.cfn_wcspwrite.proofs.function.count.Given as goal

-- the count so far and how many of the cells that are left are listed
abbrev pub invariant-loop-cell : goal.invariant-loop-cell
invariant-loop-cell l = record {
  few : l.count ≤ l.cell;
  rest : l.count + length (filter (differs (function_at l.network l.f)) (range_with_len l.cell (l.cell-end - l.cell))) ≡ length (filter (differs (function_at l.network l.f)) (range_with_len 0 l.cell-end));
}
