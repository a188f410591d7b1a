use Rattle.std.proofs.Common.{◌≡◌, ◌+◌, ◌≤◌, length, map, All, vec_capacity}
use Rattle.cfn_rota.specs.Values.{IsNew, lanes_of}
use Rattle.cfn_rota.proofs.ends.lanes.Given as goal

abbrev pub invariant-loop : goal.invariant-loop
invariant-loop g l = record {
  count : length l.all.items ≡ l.counter;
  room : length l.fn.thieves ≤ vec_capacity l.all;
  new : All (IsNew l.room) l.all.items;
  parts : All (λ lane. lane.parts + length l.fn.thieves ≡ 128) l.all.items;
  thieves : length l.thieves ≡ length l.fn.thieves;
  known : All (λ theirs. lanes_of theirs.items ≡ map (λ lane. lane.lane) l.all.items) l.thieves;
}
