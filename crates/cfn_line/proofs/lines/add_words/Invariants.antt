use Rattle.std.proofs.Common.{◌∷◌, ◌++◌, [], map, drop}
use Rattle.cfn_model.specs.Text.{line}
use Rattle.cfn_line.specs.Appending.{Midway}
use Rattle.cfn_line.specs.declared.channel.Channel.TheVariants.{Screen}
use Rattle.cfn_line.proofs.lines.add_words.Given as goal

abbrev pub invariant-loop-word : goal.invariant-loop-word
invariant-loop-word g l =
    Midway Screen (g.D.Desk.outside l.initial.desk)
    (l.initial.into ++ line (map g.W.AsWord.bytes l.front ++ g.W.AsWord.bytes l.last ∷ []))
    (l.into ++ line (map g.W.AsWord.bytes (drop l.word-index l.front) ++ g.W.AsWord.bytes l.last ∷ []))
    (g.D.Desk.outside l.desk)
