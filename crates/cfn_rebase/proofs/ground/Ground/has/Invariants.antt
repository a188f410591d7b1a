use Rattle.std.proofs.Common.{◌≡◌, ℕ, ◌<◌}
use Rattle.std.specs.Prelude.{IsTrue}
use Rattle.cfn_model.specs.Decisions.{variable_of, keeps}
use Rattle.cfn_model.specs.Sums.{is_live}
use Rattle.cfn_store.specs.Standing.{history}
use Rattle.cfn_rebase.proofs.ground.Ground.has.Given as goal

-- no smaller value is live and on the side
abbrev pub invariant-loop-a : goal.invariant-loop-a
invariant-loop-a l = (b : ℕ) → b < l.a → keeps l.decision b ≡ l.first → IsTrue (is_live (history l.self) (variable_of l.decision) b) → ⊥
