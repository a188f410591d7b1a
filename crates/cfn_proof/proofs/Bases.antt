-- Histories behind a base, and blocks behind blocks.
use Rattle.std.proofs.Common.{◌≡◌, ℕ, List, [], ◌∷◌, ◌++◌, refl}
use Rattle.cfn_model.specs.declared.step.Step.{Step}
use Rattle.cfn_model.specs.declared.step.Event.{Event}
use Rattle.cfn_model.specs.declared.step.Event.TheVariants.{Did}
use Rattle.cfn_model.specs.Network.{Network}
use Rattle.cfn_model.specs.Steps.{Run, after}

-- a block after a history behind a base
pub after_behind : (block : List Step) (history base : List Event) → after block (history ++ base) ≡ after block history ++ base
after_behind [] history base = refl
after_behind (step ∷ block) history base = after_behind block (Did step ∷ history) base

-- a block that goes on with another
pub after_append : (block more : List Step) (history : List Event) → after (block ++ more) history ≡ after more (after block history)
after_append [] more history = refl
after_append (step ∷ block) more history = after_append block more (Did step ∷ history)

pub run_append : (P : Network) (history : List Event) (block more : List Step) (k : ℕ) → Run P history block k → Run P (after block history) more k → Run P history (block ++ more) k
run_append P history [] more k runs rest = rest
run_append P history (step ∷ block) more k runs rest = (runs.0, run_append P (Did step ∷ history) block more k runs.1 rest)
