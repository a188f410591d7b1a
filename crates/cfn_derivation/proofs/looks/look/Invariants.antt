use Rattle.cfn_derivation.specs.Banned.{bans_of}
use Rattle.cfn_derivation.proofs.Looking.{IsLookingAlong}
use Rattle.cfn_derivation.proofs.looks.look.Given as goal

abbrev pub invariant-loop-place : goal.invariant-loop-place
invariant-loop-place l = IsLookingAlong l.q (bans_of l.bans) l.initial.store l.store l.initial.work l.work l.f l.place
