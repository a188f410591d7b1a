use Rattle.std.proofs.Common.{◌≡◌, ◌*◌, drop}
use Rattle.cfn_model.specs.Network.{cells, dims}
use Rattle.cfn_net.proofs.function.cells_of.Given as goal

abbrev pub invariant-loop-x : goal.invariant-loop-x
invariant-loop-x l = l.cells * cells (drop l.x-index (dims l.sizes l.scope)) ≡ cells (dims l.sizes l.scope)
