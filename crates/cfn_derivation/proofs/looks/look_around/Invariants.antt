use Rattle.cfn_derivation.specs.Banned.{bans_of}
use Rattle.cfn_derivation.proofs.Looking.{AreLookingAround}
use Rattle.cfn_derivation.proofs.looks.look_around.Given as goal

abbrev pub invariant-loop-place : goal.invariant-loop-place
invariant-loop-place l = AreLookingAround l.q (bans_of l.bans) l.initial.store l.store l.initial.work l.work l.x l.places l.place-index
