use Rattle.std.proofs.Common.{◌++◌, drop}
use Rattle.cfn_line.specs.Appending.{Midway}
use Rattle.cfn_line.specs.declared.channel.Channel.TheVariants.{Screen}
use Rattle.cfn_wcspwrite.specs.Canonical.{spaced}
use Rattle.cfn_wcspwrite.proofs.number.add_numbers.Given as goal

abbrev pub invariant-loop-number : goal.invariant-loop-number
invariant-loop-number g l =
    Midway Screen (g.D.Desk.outside l.initial.desk) (l.initial.into ++ spaced l.numbers)
    (l.into ++ spaced (drop l.number-index l.numbers)) (g.D.Desk.outside l.desk)
