use Rattle.std.proofs.Common.{ap}
use Rattle.cfn_bestcheck.proofs.Passing.{at_start}
use Rattle.cfn_bestcheck.proofs.Verifying.{exact}
use Rattle.cfn_bestcheck.specs.declared.answer.BestCheck.TheVariants.{Refused}
use Rattle.cfn_bestcheck.proofs.judging.check_best.Goals as goal

pub judged-requires : goal.judged-requires
judged-requires c = rw c.of-lines.ensures (at_start c.args.network.now c.args.bytes.now)

pub returns-in-Ok-clause-exact : goal.returns-in-Ok-clause-exact
returns-in-Ok-clause-exact c = exact c.args.network.now c.args.bytes.now c.in-Ok.check (rw (ap (λ r. r.text) c.of-lines.ensures) at c.in-Ok.ensures.ok)

pub returns-in-Err-Refused-clause-exact : goal.returns-in-Err-Refused-clause-exact
returns-in-Err-Refused-clause-exact c =
    exact c.args.network.now c.args.bytes.now (Refused c.in-Err-Refused.kind c.in-Err-Refused.line) (rw (c.in-Err-Refused.field-0-is, ap (λ r. r.text) c.of-lines.ensures) at c.in-Err-Refused.ensures.stop)

pub returns-in-Err-Refused-clause-checked : goal.returns-in-Err-Refused-clause-checked
returns-in-Err-Refused-clause-checked c = rw (c.in-Err-Refused.field-0-is, ap (λ r. r.text) c.of-lines.ensures) at c.in-Err-Refused.ensures.stop
