use Rattle.std.proofs.Common.{subst, arith}
use Rattle.cfn_proof.proofs.Packed.{Reading, last_is, more_is}
use Rattle.cfn_proof.proofs.packing.take_number.Goals as goal

pub returns-then-byte-lt128-clause-number : goal.returns-then-byte-lt128-clause-number
returns-then-byte-lt128-clause-number c =
    let reading = subst (λ left. Reading c.args.bytes.now.now left c.loop-byte.number c.loop-byte.scale) c.in-Some.ensures.cases.0 c.loop-byte.invariant in
    rw c.from.ensures (last_is _ _ _ _ _ reading c.requires.some c.if-byte-lt128.true)

pub loop-byte-preserved : goal.loop-byte-preserved
loop-byte-preserved c =
    let reading = subst (λ left. Reading c.args.bytes.now.now left c.loop-byte.number c.loop-byte.scale) c.in-Some.ensures.cases.0 c.loop-byte.invariant in
    rw c.from-in-Some.ensures (more_is _ _ _ _ _ reading (omega (arith, c.if-byte-lt128.false)))
