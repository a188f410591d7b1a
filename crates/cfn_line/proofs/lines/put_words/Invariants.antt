use Rattle.std.proofs.Common.{◌∷◌, ◌++◌, [], map, drop}
use Rattle.cfn_model.specs.Text.{line}
use Rattle.cfn_line.specs.Appending.{Midway}
use Rattle.cfn_line.specs.declared.channel.Channel.TheVariants.{File}
use Rattle.cfn_line.proofs.lines.put_words.Given as goal

abbrev pub invariant-loop-word : goal.invariant-loop-word
invariant-loop-word g l =
    Midway File (g.D.Desk.outside l.initial.desk)
    (line (map g.W.AsWord.bytes l.front ++ g.W.AsWord.bytes l.last ∷ []))
    (line (map g.W.AsWord.bytes (drop l.word-index l.front) ++ g.W.AsWord.bytes l.last ∷ []))
    (g.D.Desk.outside l.desk)
