use Rattle.std.proofs.Common.{◌≡◌, ℕ, ◌<◌}
use Rattle.std.specs.Prelude.{false, slice_index}
use Rattle.cfn_model.specs.Sums.{is_live}
use Rattle.cfn_store.specs.Standing.{history}
use Rattle.cfn_rebase.proofs.ground.Ground.is_wiped.Given as goal

-- each smaller variable has a live value
abbrev pub invariant-loop-x : goal.invariant-loop-x
invariant-loop-x l = (y : ℕ) → y < l.x → ((a : ℕ) → a < slice_index l.self.network.sizes y → is_live (history l.self) y a ≡ false) → ⊥
