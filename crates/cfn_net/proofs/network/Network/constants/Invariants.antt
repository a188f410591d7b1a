use Rattle.std.proofs.Common.{◌≡◌, ◌+◌, ◌*◌, ◌≤◌, drop, sum_by}
use Rattle.cfn_model.specs.Sums.{constant}
use Rattle.cfn_net.proofs.network.Network.constants.Given as goal

-- the sum so far and the constants of the other functions are the sum of all
abbrev pub invariant-loop-f : goal.invariant-loop-f
invariant-loop-f l = record {
  rest : l.sum + sum_by constant (drop l.f l.self.functions) ≡ sum_by constant l.self.functions;
  small : l.sum ≤ 18446744073709551615 * l.f;
}
