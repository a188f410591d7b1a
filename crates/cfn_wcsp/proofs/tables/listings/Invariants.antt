use Rattle.std.proofs.Common.{◌≡◌, ◌-◌, ◌<◌, length}
use Rattle.cfn_model.specs.Network.{dims, dims_at}
use Rattle.cfn_net.specs.Building.{last}
use Rattle.cfn_wcsp.specs.Giving.{state}
use Rattle.cfn_wcsp.specs.Tables.{listings_into}
use Rattle.cfn_wcsp.proofs.tables.listings.Given as goal

abbrev pub invariant-loop : goal.invariant-loop
invariant-loop l =
    (listings_into l.builder (dims l.scope.sizes l.scope.variables) (l.count - l.counter) (state l.words) ≡ listings_into l.fn.builder (dims l.scope.sizes l.scope.variables) l.count (state l.fn.words)) × (0 < length l.builder.functions) × (dims_at l.builder (last l.builder) ≡ dims l.scope.sizes l.scope.variables)
