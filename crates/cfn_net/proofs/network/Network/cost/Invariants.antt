use Rattle.std.proofs.Common.{◌≡◌}
use Rattle.cfn_net.proofs.Costs.{cost_to}
use Rattle.cfn_net.proofs.network.Network.cost.Given as goal

abbrev pub invariant-loop-f : goal.invariant-loop-f
invariant-loop-f l = record { value : l.sum.value ≡ cost_to l.self l.values l.f; top : l.sum.top ≡ l.self.upper }
