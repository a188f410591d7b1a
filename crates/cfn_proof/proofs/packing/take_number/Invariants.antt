use Rattle.std.proofs.Common.{length}
use Rattle.cfn_proof.proofs.Packed.{Reading}
use Rattle.cfn_proof.proofs.packing.take_number.Given as goal

abbrev pub invariant-loop-byte : goal.invariant-loop-byte
invariant-loop-byte l = Reading l.fn.bytes.now l.left l.number l.scale

abbrev pub decreases-loop-byte : goal.decreases-loop-byte
decreases-loop-byte l = length l.left
