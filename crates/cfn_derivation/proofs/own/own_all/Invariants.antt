use Rattle.cfn_derivation.specs.Banned.{bans_of}
use Rattle.cfn_derivation.proofs.Lowering.{AreLowering}
use Rattle.cfn_derivation.proofs.own.own_all.Given as goal

abbrev pub invariant-loop-x : goal.invariant-loop-x
invariant-loop-x l = AreLowering l.q (bans_of l.bans) l.initial.store l.store l.initial.work l.work l.variables l.x-index
