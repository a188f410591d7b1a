use Rattle.cfn_report.proofs.report.say_best.Goals as goal

pub returns-in-None : goal.returns-in-None
returns-in-None g c = rw c.in-None.is c.say_none.ensures
