use Rattle.std.proofs.Common.{map, drop}
use Rattle.cfn_model.specs.Text.{text}
use Rattle.cfn_line.specs.Appending.{Midway}
use Rattle.cfn_line.specs.declared.channel.Channel.TheVariants.{Screen}
use Rattle.cfn_ranking.specs.Certificates.{solution_of}
use Rattle.cfn_certwrite.specs.ListTexts.{cost_words}
use Rattle.cfn_certwrite.proofs.list_report.say_list.Given as goal

abbrev pub invariant-loop-listed : goal.invariant-loop-listed
invariant-loop-listed g l = let d = g.D.Desk in
    Midway Screen (d.outside l.initial.desk)
    (text (map (λ listed. cost_words (solution_of listed)) l.list)) (text (map (λ listed. cost_words (solution_of listed)) (drop l.listed-index l.list))) (d.outside l.desk)
