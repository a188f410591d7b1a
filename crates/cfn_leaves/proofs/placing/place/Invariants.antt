use Rattle.std.proofs.Common.{◌≡◌, ◌+◌, ◌≤◌, ◌++◌, length, map, take, vec_len, vec_capacity}
use Rattle.cfn_leaves.specs.Listed.{IsListed}
use Rattle.cfn_leaves.specs.Placed.{placed}
use Rattle.cfn_leaves.proofs.placing.place.Given as goal

-- the leaves so far are in the table and in the list
abbrev pub invariant-loop-spot : goal.invariant-loop-spot
invariant-loop-spot l = record {
  table : l.table.items ≡ l.fn.table.items ++ map (placed l.leaf.number l.nodes) (take l.spot-index l.spots);
  len : vec_len l.table ≡ vec_len l.fn.table + l.spot-index;
  capacity : vec_capacity l.table ≡ vec_capacity l.fn.table;
  listed : IsListed l.fn.table.items l.fn.list.leaves → IsListed l.table.items l.list.leaves;
  leaves : length l.list.leaves ≡ length l.fn.list.leaves + l.spot-index;
  room : l.fn.list.spare ≤ l.list.spare + l.spot-index;
}
