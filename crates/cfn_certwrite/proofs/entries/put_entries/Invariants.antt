use Rattle.std.proofs.Common.{map, drop}
use Rattle.cfn_line.specs.Appending.{Midway}
use Rattle.cfn_line.specs.declared.channel.Channel.TheVariants.{File}
use Rattle.cfn_record.specs.Lines.{text_of, lines_of_entries}
use Rattle.cfn_record.specs.Histories.{entry_of}
use Rattle.cfn_certwrite.proofs.entries.put_entries.Given as goal

abbrev pub invariant-loop-done : goal.invariant-loop-done
invariant-loop-done g l = let d = g.D.Desk in
    Midway File (d.outside l.initial.desk)
    (text_of (lines_of_entries (map entry_of l.happened))) (text_of (lines_of_entries (map entry_of (drop l.done-index l.happened)))) (d.outside l.desk)
