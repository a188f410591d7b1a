use Rattle.std.proofs.Common.{◌∷◌, ◌++◌, [], map, drop, decimal}
use Rattle.cfn_model.specs.Text.{line}
use Rattle.cfn_line.specs.Appending.{Midway}
use Rattle.cfn_line.specs.Words.{word_text}
use Rattle.cfn_line.specs.declared.channel.Channel.TheVariants.{File}
use Rattle.cfn_line.proofs.lines.put_behind.Given as goal

abbrev pub invariant-loop-word : goal.invariant-loop-word
invariant-loop-word g l =
    Midway File (g.D.Desk.outside l.initial.desk)
    (line (map word_text l.words ++ (map decimal l.front ++ decimal l.last ∷ [])))
    (line (map word_text (drop l.word-index l.words) ++ (map decimal l.front ++ decimal l.last ∷ [])))
    (g.D.Desk.outside l.desk)
