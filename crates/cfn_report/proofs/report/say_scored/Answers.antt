use Rattle.cfn_report.proofs.report.say_scored.Goals as goal

pub returns-in-None : goal.returns-in-None
returns-in-None g c = rw (c.in-None.ensures.none.0) c.say_none.ensures
