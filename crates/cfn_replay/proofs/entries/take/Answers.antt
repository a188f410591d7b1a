use Rattle.std.proofs.Common.{refl, arith}
use Rattle.cfn_replay.proofs.Holding.{take_answers, other_answers, take_none}
use Rattle.cfn_replay.proofs.entries.take.Goals as goal

pub returns-then-lent-leaf : goal.returns-then-lent-leaf
returns-then-lent-leaf c = λ P pool is. take_answers P pool c.args.leaves.now c.hand_out.new.self is c.in-Ok.ensures.network c.args.worker c.args.want c.args.leaf c.args.grant c.in-Ok.lent (omega (arith, c.if-want-eq0.false)) c.in-Ok.ensures.hands c.if-lent-leaf.true _ refl

pub returns-else-lent-leaf : goal.returns-else-lent-leaf
returns-else-lent-leaf c = λ P pool is. other_answers P pool c.args.leaves.now c.hand_out.new.self is c.in-Ok.ensures.network c.args.worker c.args.want c.args.leaf c.args.grant c.in-Ok.lent c.in-Ok.ensures.hands c.if-lent-leaf.false _ refl

pub returns-in-Err : goal.returns-in-Err
returns-in-Err c = λ P pool is new follows. take_none P pool c.args.leaves.now c.args.worker c.args.want c.args.leaf c.args.grant c.in-Err.field-0 is c.in-Err.ensures.hands.1 new follows
