use Rattle.std.proofs.Common.{◌≡◌, ◌+◌, length}
use Rattle.cfn_proof.proofs.path.Path.len.Given as goal

abbrev pub invariant-loop-event : goal.invariant-loop-event
invariant-loop-event l = l.len + length l._event-iterator ≡ length l.self
