use Rattle.std.proofs.Common.{arith}
use Rattle.cfn_plain.proofs.functions.entry.Goals as goal

pub returns-then-f-functions-clause-small : goal.returns-then-f-functions-clause-small
returns-then-f-functions-clause-small c =
    let limits = c.law_limits.ensures in
    let there = c.if-f-functions.true in
    omega (arith, c.entry.ensures, limits.upper, (limits.functions c.args.f (omega arith)).capped c.cell.result)
