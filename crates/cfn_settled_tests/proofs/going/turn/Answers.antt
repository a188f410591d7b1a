use Rattle.cfn_settled_tests.proofs.Behind.{behind_side}
use Rattle.cfn_settled_tests.proofs.going.turn.Goals as goal

pub returns-then-below-eq0 : goal.returns-then-below-eq0
returns-then-below-eq0 c = behind_side c.args.store.now c.take.new.self _ c.take.ensures

pub returns-else-below-eq0 : goal.returns-else-below-eq0
returns-else-below-eq0 c = behind_side c.args.store.now c.refuse.new.self _ c.refuse.ensures
