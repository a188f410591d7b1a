use Rattle.cfn_proof.proofs.Packed.{Writing}
use Rattle.cfn_proof.proofs.packing.push_number.Given as goal

-- the bytes so far, before those of what is left, say the number
abbrev pub invariant-loop-left : goal.invariant-loop-left
invariant-loop-left l = Writing l.initial.bytes.items l.bytes.items l.number l.left

abbrev pub decreases-loop-left : goal.decreases-loop-left
decreases-loop-left l = l.left
