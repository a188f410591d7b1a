use Rattle.std.proofs.Common.{length}
use Rattle.std.specs.Prelude.{slice_index}
use Rattle.cfn_derivation.specs.Banned.{bans_of}
use Rattle.cfn_derivation.proofs.Looking.{AreLooking}
use Rattle.cfn_derivation.proofs.looks.look_all.Given as goal

abbrev pub invariant-loop-f : goal.invariant-loop-f
invariant-loop-f l = AreLooking l.q (bans_of l.bans) l.initial.store l.store l.initial.work l.work (slice_index l.functions) (length l.functions) l.f-index
