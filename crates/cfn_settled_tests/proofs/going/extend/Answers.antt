use Rattle.cfn_settled_tests.proofs.Behind.{behind_step}
use Rattle.cfn_settled_tests.proofs.going.extend.Goals as goal

pub returns : goal.returns
returns c = behind_step c.args.store.now c.extend.new.self _ c.extend.ensures
