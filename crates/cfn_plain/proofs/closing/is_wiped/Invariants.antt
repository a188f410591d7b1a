use Rattle.std.proofs.Common.{ℕ, ◌<◌}
use Rattle.std.specs.Prelude.{slice_index, IsTrue}
use Rattle.cfn_model.specs.Sums.{is_live}
use Rattle.cfn_plain.proofs.closing.is_wiped.Given as goal

-- the smaller variables have live values
abbrev pub invariant-loop-x : goal.invariant-loop-x
invariant-loop-x l = (x : ℕ) → x < l.x → (a : ℕ) × (a < slice_index l.network.sizes x) × IsTrue (is_live l.history x a)
