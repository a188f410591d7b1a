use Rattle.std.proofs.Common.{ap}
use Rattle.std.specs.Prelude.{Ok, Err}
use Rattle.cfn_certread.proofs.Whole.{exact}
use Rattle.cfn_certread.proofs.reading.read.Goals as goal

pub returns-in-Ok-clause-exact : goal.returns-in-Ok-clause-exact
returns-in-Ok-clause-exact c = exact c.args.text.now (Ok c.in-Ok.read) (rw (ap (λ r. r.text) c.new-reader.ensures.start) at c.in-Ok.ensures.read)

pub returns-in-Err-Text-clause-exact : goal.returns-in-Err-Text-clause-exact
returns-in-Err-Text-clause-exact c = exact c.args.text.now (Err c.in-Err-Text.fault) (rw (c.in-Err-Text.field-0-is, ap (λ r. r.text) c.new-reader.ensures.start) at c.in-Err-Text.ensures.stop)
