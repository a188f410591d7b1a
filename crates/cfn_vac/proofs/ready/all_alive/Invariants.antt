use Rattle.std.proofs.Common.{ℕ, ◌<◌}
use Rattle.std.specs.Prelude.{IsTrue}
use Rattle.cfn_model.specs.Sums.{is_live}
use Rattle.cfn_model.specs.Steps.{IsValue}
use Rattle.cfn_store.specs.Standing.{history}
use Rattle.cfn_vac.proofs.ready.all_alive.Given as goal

abbrev pub invariant-loop-x : goal.invariant-loop-x
invariant-loop-x l = (x : ℕ) → x < l.x → (a : ℕ) × IsValue l.store.network x a × IsTrue (is_live (history l.store) x a)
