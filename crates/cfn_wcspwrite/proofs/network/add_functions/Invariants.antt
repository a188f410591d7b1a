use Rattle.std.proofs.Common.{◌++◌, drop}
use Rattle.std.specs.Prelude.{flat_map}
use Rattle.cfn_model.specs.Text.{text}
use Rattle.cfn_line.specs.Appending.{Midway}
use Rattle.cfn_line.specs.declared.channel.Channel.TheVariants.{Screen}
use Rattle.cfn_wcspwrite.specs.Canonical.{function_lines}
use Rattle.cfn_wcspwrite.proofs.network.add_functions.Given as goal

abbrev pub invariant-loop-f : goal.invariant-loop-f
invariant-loop-f g l =
    Midway Screen (g.D.Desk.outside l.initial.desk)
    (l.initial.into ++ text (flat_map (function_lines l.network.sizes) l.network.functions))
    (l.into ++ text (flat_map (function_lines l.network.sizes) (drop l.f l.network.functions)))
    (g.D.Desk.outside l.desk)
