use Rattle.std.proofs.Common.{arith}
use Rattle.cfn_certwrite.proofs.Spellings.{record_spelled}
use Rattle.cfn_certwrite.proofs.whole.law_spelled.Goals as goal

pub returns : goal.returns
returns c = record_spelled c.args.history.now c.args.certificate.now c.law_spelled.ensures.budget c.law_spelled.ensures.entries (omega arith) (omega arith) c.requires
