use Rattle.std.proofs.Common.{◌≡◌}
use Rattle.std.specs.Prelude.{map, take}
use Rattle.cfn_model.specs.Network.{cells, dims}
use Rattle.cfn_store.proofs.cuts.Cuts.at_root.Given as goal

abbrev pub invariant-loop-f : goal.invariant-loop-f
invariant-loop-f l = l.cells.items ≡ map (λ f. cells (dims l.network.sizes f.scope)) (take l.f l.network.functions)
