use Rattle.cfn_derivation.specs.Banned.{bans_of}
use Rattle.cfn_derivation.proofs.Looking.{IsLooking}
use Rattle.cfn_derivation.proofs.looks.look_at.Given as goal

abbrev pub invariant-loop-value : goal.invariant-loop-value
invariant-loop-value l = IsLooking l.q (bans_of l.bans) l.initial.store l.store l.initial.work l.work l.f l.place l.value
