use Rattle.std.proofs.Common.{ℕ, ◌<◌}
use Rattle.cfn_store.specs.Standing.{history}
use Rattle.cfn_gain.specs.Passes.{HasLive}
use Rattle.cfn_gain.proofs.nodes.is_wiped.Given as goal

abbrev pub invariant-loop-x : goal.invariant-loop-x
invariant-loop-x l = (y : ℕ) → y < l.x → HasLive l.network (history l.store) y
