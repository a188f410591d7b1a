use Rattle.std.proofs.Common.{ℕ, ◌<◌, ◌≤◌}
use Rattle.std.specs.Prelude.{IsFalse}
use Rattle.cfn_model.specs.Network.{variable_at}
use Rattle.cfn_consistency.specs.Openness.{is_open}
use Rattle.cfn_store.specs.Standing.{history}
use Rattle.cfn_dac.proofs.open.next_open.Given as goal

abbrev pub invariant-loop-place : goal.invariant-loop-place
invariant-loop-place l = (k : ℕ) → l.from ≤ k → k < l.place → IsFalse (is_open l.store.network (history l.store) (variable_at l.store.network l.f k))
