-- What an enforcing call answers, and what it does to a store.
use Rattle.std.specs.Prelude.{◌≡◌, ℕ, ◌+◌, ◌≤◌, ◌⊎◌, List, ◌++◌, length}
use Rattle.cfn_model.specs.declared.step.Step.{Step}
use Rattle.cfn_model.specs.Steps.{Run}
use Rattle.cfn_consistency.specs.Consistency.{IsDead, IsNodeConsistent}
use Rattle.cfn_consistency.specs.Groups.{GainAtNodes}
use Rattle.cfn_store.specs.Standing.{Standing, history}
use Rattle.cfn_gain.specs.declared.settling.Settling.{Settling}
use Rattle.cfn_gain.specs.declared.settling.Settling.TheVariants.{Settled, Dead, Spent}

-- Between two standings there are steps alone, which run at k, each a lift or a cut of a live value, and the block has
-- at most so many steps, or none was added.
pub record AddsSteps (before after : Standing) (k limit : ℕ) : Type 0 where
  pub network : after.network ≡ before.network
  pub base : after.base ≡ before.base
  pub steps : List Step
  pub block : after.block ≡ before.block ++ steps
  pub runs : Run before.network (history before) steps k
  pub gain : GainAtNodes (history before) steps
  pub spare : after.spare + length steps ≡ before.spare
  pub within : (length after.block ≤ limit) ⊎ (length after.block ≡ length before.block)

-- Settled: node consistent. Dead: it is. Spent: neither, and the block is as long as it may be.
abbrev pub Answers : Standing → ℕ → ℕ → Settling → Type 0
Answers s k limit Settled = IsNodeConsistent s.network (history s) k
Answers s k limit Dead = IsDead s.network (history s) k
Answers s k limit Spent = (limit ≤ length s.block) × (IsNodeConsistent s.network (history s) k → ⊥) × (IsDead s.network (history s) k → ⊥)
