use Rattle.std.proofs.Common.{◌<◌, length}
use Rattle.std.specs.Prelude.{IfSome}
use Rattle.cfn_best.specs.Lines.{text_of, lines_of_tree}
use Rattle.cfn_certwrite.specs.Walk.{order_left}
use Rattle.cfn_line.specs.Appending.{Midway}
use Rattle.cfn_line.specs.declared.channel.Channel.TheVariants.{File}
use Rattle.cfn_ranking.specs.Trees.{listed_of}
use Rattle.cfn_certwrite.specs.ListLines.{lines_in}
use Rattle.cfn_certwrite.proofs.list_nodes.put_tree.Given as goal

abbrev pub invariant-loop-next : goal.invariant-loop-next
invariant-loop-next g l = let d = g.D.Desk in record {
  there : IfSome l.next (λ id. id.number < length l.tree);
  left : Midway File (d.outside l.initial.desk)
      (text_of (lines_of_tree (listed_of l.tree l.numbers))) (text_of (lines_in l.tree l.numbers (order_left l.tree l.next))) (d.outside l.desk);
}

abbrev pub decreases-loop-next : goal.decreases-loop-next
decreases-loop-next g l = length (order_left l.tree l.next)
