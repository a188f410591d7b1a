use Rattle.cfn_model.specs.Network.{dims}
use Rattle.cfn_net.proofs.Cells.{Along}
use Rattle.cfn_net.proofs.function.cell_of.Given as goal

abbrev pub invariant-loop-place : goal.invariant-loop-place
invariant-loop-place l = Along (dims l.sizes l.scope) l.tuple l.place l.cell
