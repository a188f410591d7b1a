use Rattle.std.proofs.Common.{◌≡◌, ◌+◌, ◌*◌, ◌≤◌, drop, sum_by}
use Rattle.cfn_model.specs.Network.{entry, restrict}
use Rattle.cfn_plain.proofs.costs.total.Given as goal

-- the sum so far and the entries of the other functions are the total
abbrev pub invariant-loop-f : goal.invariant-loop-f
invariant-loop-f l = record {
  rest : l.sum + sum_by (λ f. entry l.network.sizes f (restrict f.scope l.values)) (drop l.f l.network.functions) ≡ sum_by (λ f. entry l.network.sizes f (restrict f.scope l.values)) l.network.functions;
  small : l.sum ≤ 18446744073709551615 * l.f;
}
