use Rattle.cfn_model.specs.Network.{dims, restrict}
use Rattle.cfn_net.proofs.Cells.{Along}
use Rattle.cfn_net.proofs.function.Function.cost.Given as goal

abbrev pub invariant-loop-x : goal.invariant-loop-x
invariant-loop-x l = Along (dims l.sizes l.self.scope) (restrict l.self.scope l.values) l.x-index l.cell
