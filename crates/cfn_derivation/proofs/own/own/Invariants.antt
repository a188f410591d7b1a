use Rattle.cfn_derivation.specs.Banned.{bans_of}
use Rattle.cfn_derivation.proofs.Lowering.{IsLowering}
use Rattle.cfn_derivation.proofs.own.own.Given as goal

abbrev pub invariant-loop-value : goal.invariant-loop-value
invariant-loop-value l = IsLowering l.q (bans_of l.bans) l.initial.store l.store l.initial.work l.work l.x l.value
