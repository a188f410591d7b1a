use Rattle.std.proofs.Common.{arith}
use Rattle.cfn_cli.proofs.Numbers.{bound_refused, number_taken, text_refused}
use Rattle.cfn_cli.proofs.found.number_in.Goals as goal

pub returns-in-Ok-clause-number : goal.returns-in-Ok-clause-number
returns-in-Ok-clause-number c =
    number_taken c.args.text.now c.args.least c.args.most c.in-Ok.number c.in-Ok.ensures.value.0 c.if-least-number.true c.if-number-most.true

pub returns-in_default-clause-number : goal.returns-in_default-clause-number
returns-in_default-clause-number c =
    bound_refused c.args.text.now c.args.least c.args.most c.in-Ok.number c.in-Ok.ensures.value.0 (λ low high. omega arith)

pub returns-in_default-2-clause-number : goal.returns-in_default-2-clause-number
returns-in_default-2-clause-number c =
    bound_refused c.args.text.now c.args.least c.args.most c.in-Ok.number c.in-Ok.ensures.value.0 (λ low high. omega arith)

pub returns-in_default-3-clause-number : goal.returns-in_default-3-clause-number
returns-in_default-3-clause-number c = text_refused c.args.text.now c.args.least c.args.most c.in_default.ensures.value.0
