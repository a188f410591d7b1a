use Rattle.std.proofs.Common.{◌++◌, ◌-◌, map}
use Rattle.std.specs.Prelude.{filter}
use Rattle.std.specs.List.{range_with_len}
use Rattle.cfn_model.specs.Network.{function_at}
use Rattle.cfn_model.specs.Text.{text}
use Rattle.cfn_line.specs.Appending.{Midway}
use Rattle.cfn_line.specs.declared.channel.Channel.TheVariants.{Screen}
use Rattle.cfn_wcspwrite.specs.Canonical.{cell_words, differs}
use Rattle.cfn_wcspwrite.proofs.function.add_cells.Given as goal

abbrev pub invariant-loop-cell : goal.invariant-loop-cell
invariant-loop-cell g l =
    let f = function_at l.network l.f in
    Midway Screen (g.D.Desk.outside l.initial.desk)
    (l.initial.into ++ text (map (cell_words l.network.sizes f) (filter (differs f) (range_with_len 0 l.cell-end))))
    (l.into ++ text (map (cell_words l.network.sizes f) (filter (differs f) (range_with_len l.cell (l.cell-end - l.cell)))))
    (g.D.Desk.outside l.desk)
