use Rattle.std.proofs.Common.{map, drop}
use Rattle.cfn_model.specs.Text.{row_words, text}
use Rattle.cfn_line.specs.Appending.{Midway}
use Rattle.cfn_line.specs.declared.channel.Channel.TheVariants.{Screen}
use Rattle.cfn_report.proofs.report.say_rows.Given as goal

abbrev pub invariant-loop-row : goal.invariant-loop-row
invariant-loop-row g l = let d = g.D.Desk in
    Midway Screen (d.outside l.initial.desk)
    (text (map row_words l.rows)) (text (map row_words (drop l.row-index l.rows))) (d.outside l.desk)
