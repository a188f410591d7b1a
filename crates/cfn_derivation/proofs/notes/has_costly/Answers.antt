use Rattle.cfn_store.specs.Standing.{history}
use Rattle.cfn_derivation.proofs.Noting.{costly_next, costly_end}
use Rattle.cfn_derivation.proofs.notes.has_costly.Goals as goal

pub loop-value-preserved : goal.loop-value-preserved
loop-value-preserved c =
    let s = c.args.store.now in let values = c.live-value-items.result.now in
    costly_next s.network (history s) c.args.q c.args.x values c.loop-value.value-index c.unary.result c.loop-value.invariant (c.unary.ensures (c.live-value-items.ensures.live c.loop-value.value-index c.loop-value-test.true).1) c.if-unary-q.false

pub returns-clause-no : goal.returns-clause-no
returns-clause-no c = λ has. absurd (costly_end c.args.store.now c.args.q c.args.x c.live-value-items.result.now c.loop-value.value-index c.live-value-items.ensures c.loop-value-test.false c.loop-value.invariant has)
