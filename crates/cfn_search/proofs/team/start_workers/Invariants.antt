use Rattle.std.proofs.Common.{◌≡◌, ◌+◌, ◌++◌, ◌≤◌, length, map, reverse, All, vec_capacity}
use Rattle.cfn_rota.specs.Values.{access}
use Rattle.cfn_search.specs.Accounts.{reach}
use Rattle.cfn_search.proofs.team.start_workers.Given as goal

-- the workers so far have the first ends, and each part that is left has one share
abbrev pub invariant-loop-part : goal.invariant-loop-part
invariant-loop-part g l = record {
  count : length l.crew.items + length l.parts.items ≡ length l.fn.parts.items;
  ends : length l.ends.items ≡ length l.parts.items;
  room : length l.fn.parts.items ≤ vec_capacity l.crew;
  ones : All (λ part. part.shares ≡ 1) l.parts.items;
  order : map reach l.crew.items ++ reverse (map access l.ends.items) ≡ reverse (map access l.fn.ends.items);
}

abbrev pub decreases-loop-part : goal.decreases-loop-part
decreases-loop-part g l = length l.parts.items
