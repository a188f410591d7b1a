use Rattle.std.proofs.Common.{◌≡◌, take}
use Rattle.cfn_proof.proofs.path.Path.copy.Given as goal

abbrev pub invariant-loop-leg : goal.invariant-loop-leg
invariant-loop-leg l = l.legs.items ≡ take l.leg-index l.leg-items
