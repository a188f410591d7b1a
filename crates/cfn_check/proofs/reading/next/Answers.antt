use Rattle.cfn_check.proofs.Telling.{text_stops}
use Rattle.cfn_check.proofs.reading.next.Goals as goal

pub returns-in-Err-clause-stop : goal.returns-in-Err-clause-stop
returns-in-Err-clause-stop c = λ P ls s right. text_stops P c.args.reader.now ls s _ c.in-Err.ensures.line right (c.in-Err.ensures.fault ls s right.read)
