use Rattle.cfn_certread.proofs.Telling.{text_stops}
use Rattle.cfn_certread.proofs.head.next.Goals as goal

pub returns-in-Err-clause-stop : goal.returns-in-Err-clause-stop
returns-in-Err-clause-stop c = λ ls s read. text_stops c.args.reader.now ls s _ c.in-Err.ensures.line read (c.in-Err.ensures.fault ls s read)
