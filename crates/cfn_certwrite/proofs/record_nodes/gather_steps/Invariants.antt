use Rattle.std.proofs.Common.{◌++◌, map}
use Rattle.cfn_model.specs.Text.{step_words, text}
use Rattle.cfn_line.specs.Appending.{Midway}
use Rattle.cfn_line.specs.declared.channel.Channel.TheVariants.{File}
use Rattle.cfn_certwrite.proofs.record_nodes.gather_steps.Given as goal

abbrev pub invariant-loop-step : goal.invariant-loop-step
invariant-loop-step g l = let d = g.D.Desk in
    Midway File (d.outside l.initial.desk)
    (l.initial.batch ++ text (map step_words l.block)) (l.batch ++ text (map step_words l.step-iterator)) (d.outside l.desk)
