use Rattle.std.proofs.Common.{arith}
use Rattle.cfn_proof.proofs.Packed.{some_number}
use Rattle.cfn_proof.proofs.block.StepsIterator.next.Goals as goal

pub first_step-step-requires-clause-some : goal.first_step-step-requires-clause-some
first_step-step-requires-clause-some c = some_number _ c.self.invariant.whole (grind (arith, c.is_empty.ensures, c.if-is_empty.false))
