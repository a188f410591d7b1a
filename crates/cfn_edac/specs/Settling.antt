-- What a call of the enforcer answers.
use Rattle.std.specs.Prelude.{◌≡◌, ℕ, ◌≤◌, List, ◌∷◌, length}
use Rattle.cfn_model.specs.declared.step.Event.{Event}
use Rattle.cfn_consistency.specs.Consistency.{IsDead, AreFullyConsistent}
use Rattle.cfn_gain.specs.declared.settling.Settling.{Settling}
use Rattle.cfn_gain.specs.declared.settling.Settling.TheVariants.{Settled, Dead, Spent}
use Rattle.cfn_store.specs.Standing.{Standing, history}
use Rattle.cfn_gain.specs.declared.limits.Limits.{Limits}
use Rattle.cfn_gain.specs.Gains.{Gained, IsOpen, IsDue}

-- Settled: fully consistent. Dead: it is. Spent: the block is as long as it may be.
abbrev pub Answers : Standing → Limits → Settling → Type 0
Answers s limits Settled = AreFullyConsistent s.network (history s) limits.threshold
Answers s limits Dead = IsDead s.network (history s) limits.threshold
Answers s limits Spent = limits.steps ≤ length s.block

-- A store stands one event behind a place where it was fully consistent at some threshold.
pub record IsBehindSettled (s : Standing) (event : Event) : Type 0 where
  pub before : List Event
  pub threshold : ℕ
  pub path : history s ≡ event ∷ before
  pub settled : AreFullyConsistent s.network before threshold

-- What a call gains: the steps that it added are groups. Spent: the last of them may be unfinished, and a step is due, since
-- the store is not fully consistent.
abbrev pub HasGained : Standing → Standing → Limits → Settling → Type 0
HasGained before after limits Settled = Gained before after
HasGained before after limits Dead = Gained before after
HasGained before after limits Spent = IsOpen before after × IsDue after limits
