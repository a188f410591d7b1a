use Rattle.cfn_derivation.specs.Watched.{Grows}
use Rattle.cfn_derivation.proofs.Noting.{IsAmong}
use Rattle.cfn_derivation.proofs.notes.touch_around.Given as goal

abbrev pub invariant-loop-place : goal.invariant-loop-place
invariant-loop-place l = Grows (IsAmong l.place-items l.place-index) l.initial.touched l.touched
