use Rattle.cfn_settled_tests.proofs.Behind.{behind_step}
use Rattle.cfn_settled_tests.proofs.going.cut_tuple.Goals as goal

pub returns : goal.returns
returns c = behind_step c.args.store.now c.cut_tuple.new.self _ c.cut_tuple.ensures
