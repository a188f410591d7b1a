use Rattle.cfn_bestcheck.proofs.Items.{some_values}
use Rattle.cfn_bestcheck.proofs.kinds.with_values.Goals as goal

pub returns-in-None : goal.returns-in-None
returns-in-None c = some_values c.args.cost c.args.words c.in-None.ensures.none
