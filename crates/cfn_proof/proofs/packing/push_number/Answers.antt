use Rattle.cfn_proof.proofs.Packed.{writing_begins, writing_goes_on, writing_ends, writing_stops, on_err}
use Rattle.std.proofs.Common.{arith}
use Rattle.cfn_proof.proofs.packing.push_number.Goals as goal

pub loop-left-init : goal.loop-left-init
loop-left-init c = writing_begins _ _

pub returns-in_err-push-clause-err : goal.returns-in_err-push-clause-err
returns-in_err-push-clause-err c = on_err c.from_residual.result _ (rw c.in_err-push.ensures.items (writing_stops _ _ _ _ c.loop-left.invariant))

pub loop-left-preserved : goal.loop-left-preserved
loop-left-preserved c = writing_goes_on _ _ _ _ _ c.loop-left.invariant c.loop-left-test.true c.in_ok-push.ensures.items

pub returns-in_err-push-2-clause-err : goal.returns-in_err-push-2-clause-err
returns-in_err-push-2-clause-err c = on_err c.from_residual-in_err-push-2.result _ (rw c.in_err-push-2.ensures.items (writing_stops _ _ _ _ c.loop-left.invariant))

pub returns-clause-ok : goal.returns-clause-ok
returns-clause-ok c = writing_ends _ _ _ _ _ c.loop-left.invariant (omega (arith, c.loop-left-test.false)) c.in_ok-push-2.ensures.items
