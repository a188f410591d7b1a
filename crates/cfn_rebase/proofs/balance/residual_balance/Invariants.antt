use Rattle.std.proofs.Common.{◌≡◌, ℕ, ◌+◌, List, reverse, take}
use Rattle.cfn_model.specs.Network.{Fits, cell, dims_at}
use Rattle.cfn_model.specs.Sums.{residual}
use Rattle.cfn_rebase.specs.Balancing.{worth, IsLight}
use Rattle.cfn_rebase.proofs.balance.residual_balance.Given as goal

abbrev pub invariant-loop-event : goal.invariant-loop-event
invariant-loop-event l = record {
  is : (tuple : List ℕ) → Fits (dims_at l.network l.f) tuple → cell (dims_at l.network l.f) tuple ≡ l.number → worth l.sum ≡ residual l.network (reverse (take l.event-index l.events)) l.f tuple;
  light : IsLight (l.event-index + 1) l.sum;
}
