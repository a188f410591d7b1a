use Rattle.cfn_bestcheck.proofs.Entries.{full_threshold}
use Rattle.cfn_bestcheck.proofs.judging.threshold.Goals as goal

pub returns-in-Some : goal.returns-in-Some
returns-in-Some c = full_threshold c.args.network.now.upper c.args.opening.count c.args.list.now c.in-Some.last.now c.in-Some.ensures.value c.if-list-opening.true
