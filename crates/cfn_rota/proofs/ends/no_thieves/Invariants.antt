use Rattle.std.proofs.Common.{◌≡◌, ◌≤◌, [], length, All, vec_capacity}
use Rattle.cfn_rota.specs.Values.{lanes_of}
use Rattle.cfn_rota.proofs.ends.no_thieves.Given as goal

abbrev pub invariant-loop : goal.invariant-loop
invariant-loop g l = record {
  count : length l.all.items ≡ l.counter;
  room : l.workers ≤ vec_capacity l.all;
  none : All (λ thieves. lanes_of thieves.items ≡ []) l.all.items;
}
