use Rattle.std.proofs.Common.{◌≡◌, ℕ, ◌<◌, length}
use Rattle.std.specs.Prelude.{slice_index}
use Rattle.cfn_branch.specs.Choosing.{IsChoice}
use Rattle.cfn_dive.proofs.values.take_values.Given as goal

abbrev pub invariant-loop-x : goal.invariant-loop-x
invariant-loop-x l = record {
  same : length l.values ≡ length l.store.network.sizes;
  each : (y : ℕ) → y < l.x → IsChoice l.store y (slice_index l.values y);
}
