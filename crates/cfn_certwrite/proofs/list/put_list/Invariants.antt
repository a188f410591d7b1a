use Rattle.std.proofs.Common.{map, drop}
use Rattle.cfn_model.specs.Text.{text}
use Rattle.cfn_line.specs.Appending.{Midway}
use Rattle.cfn_line.specs.declared.channel.Channel.TheVariants.{File}
use Rattle.cfn_certwrite.specs.ListLines.{listed_words}
use Rattle.cfn_certwrite.proofs.list.put_list.Given as goal

abbrev pub invariant-loop-listed : goal.invariant-loop-listed
invariant-loop-listed g l = let d = g.D.Desk in
    Midway File (d.outside l.initial.desk)
    (text (map listed_words l.list)) (text (map listed_words (drop l.listed-index l.list))) (d.outside l.desk)
