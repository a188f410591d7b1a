use Rattle.std.proofs.Common.{ap}
use Rattle.cfn_fault.proofs.CallerLemmas.{none_pass_yet}
use Rattle.cfn_check.specs.declared.answer.Check.TheVariants.{Refused}
use Rattle.cfn_check.proofs.Verifying.{exact}
use Rattle.cfn_check.proofs.certificate.check.Goals as goal

pub judged-requires : goal.judged-requires
judged-requires c = record {
  read = c.new-reader.ensures.read;
  left = ap (λ r. r.left) c.new-reader.ensures.start;
  pass = none_pass_yet c.args.network.now;
}

pub returns-in-Ok-clause-exact : goal.returns-in-Ok-clause-exact
returns-in-Ok-clause-exact c = exact c.args.network.now c.args.bytes.now c.in-Ok.check (rw (ap (λ r. r.text) c.new-reader.ensures.start) at c.in-Ok.ensures.ok)

pub returns-in-Err-Refused-clause-exact : goal.returns-in-Err-Refused-clause-exact
returns-in-Err-Refused-clause-exact c =
    exact c.args.network.now c.args.bytes.now (Refused c.in-Err-Refused.kind c.in-Err-Refused.line) (rw (c.in-Err-Refused.field-0-is, ap (λ r. r.text) c.new-reader.ensures.start) at c.in-Err-Refused.ensures.stop)
