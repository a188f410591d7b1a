use Rattle.std.proofs.Common.{◌≡◌, ◌+◌, ◌*◌, ◌≤◌, drop}
use Rattle.cfn_model.specs.Network.{cells, dims}
use Rattle.cfn_model.specs.Reading.{tuple_at}
use Rattle.cfn_wcsp.specs.Giving.{state}
use Rattle.cfn_wcsp.specs.Tables.{cell_at}
use Rattle.cfn_wcsp.proofs.Cells.{cells_from}
use Rattle.cfn_wcsp.proofs.tables.tuple_cell.Given as goal

abbrev pub invariant-loop-x : goal.invariant-loop-x
invariant-loop-x l =
    (cells_from l.cell (drop l.x-index (dims l.sizes l.variables)) (tuple_at (drop l.x-index (dims l.sizes l.variables)) (state l.words)) ≡ cell_at (dims l.sizes l.variables) (state l.fn.words)) × ((l.cell + 1) * cells (drop l.x-index (dims l.sizes l.variables)) ≤ cells (dims l.sizes l.variables))
