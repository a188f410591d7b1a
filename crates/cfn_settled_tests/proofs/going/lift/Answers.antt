use Rattle.cfn_settled_tests.proofs.Behind.{behind_step}
use Rattle.cfn_settled_tests.proofs.going.lift.Goals as goal

pub returns : goal.returns
returns c = behind_step c.args.store.now c.lift.new.self _ c.lift.ensures
