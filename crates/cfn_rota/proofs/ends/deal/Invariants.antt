use Rattle.std.proofs.Common.{◌≡◌, ◌≤◌, ◌+◌, ◌++◌, length, map, reverse, All, vec_capacity}
use Rattle.cfn_rota.specs.Values.{IsNew, lanes_of, access, own_lanes}
use Rattle.cfn_rota.proofs.ends.deal.Given as goal

abbrev pub invariant-loop-lane : goal.invariant-loop-lane
invariant-loop-lane g l = record {
  count : length l.all.items + length l.lanes.items ≡ l.workers;
  thieves : length l.thieves.items ≡ length l.lanes.items;
  room : l.workers ≤ vec_capacity l.all;
  left : All (IsNew l.room) l.lanes.items;
  new : All (λ ends. IsNew l.room ends.lane) l.all.items;
  left_parts : All (λ lane. lane.parts + l.workers ≡ 128) l.lanes.items;
  parts : All (λ ends. ends.lane.parts + l.workers ≡ 128) l.all.items;
  order : map (λ lane. lane.lane) l.lanes.items ++ own_lanes (reverse (map access l.all.items)) ≡ map (λ lane. lane.lane) l.initial.lanes.items;
  known : All (λ theirs. lanes_of theirs.items ≡ map (λ lane. lane.lane) l.initial.lanes.items) l.thieves.items;
  all : All (λ ends. lanes_of ends.thieves ≡ map (λ lane. lane.lane) l.initial.lanes.items) l.all.items;
}

abbrev pub decreases-loop-lane : goal.decreases-loop-lane
decreases-loop-lane g l = length l.lanes.items
