-- What is kept of a search tree that was made for another state of a network.
use Rattle.std.specs.Prelude.{◌≡◌, ℕ, ◌⊎◌, List, [], ◌∷◌, ◌++◌}
use Rattle.cfn_model.specs.declared.step.Step.{Step}
use Rattle.cfn_model.specs.declared.step.Event.{Event}
use Rattle.cfn_model.specs.declared.step.Event.TheVariants.{Did, Took, Refused}
use Rattle.cfn_model.specs.Network.{Network}
use Rattle.cfn_model.specs.Paths.{HasSmallCosts, TameBlock}
use Rattle.cfn_model.specs.Steps.{IsDecision, Allowed, Run, after}
use Rattle.cfn_model.specs.Tree.{Tree, Open, Closed, Split, CanClose, IsStrictSplit}

-- The next step, if there is one, is not allowed, or leaves a cost of 2^64 or more.
abbrev pub Stops : Network → List Event → ℕ → List Step → Type 0
Stops P history k [] = Unit {0}
Stops P history k (step ∷ rest) = Allowed P history k step × HasSmallCosts P (Did step ∷ history) → ⊥

-- A block's longest front whose steps are allowed one behind the other and leave costs small.
pub record IsFront (P : Network) (history : List Event) (k : ℕ) (block front rest : List Step) : Type 0 where
  pub split : block ≡ front ++ rest
  pub runs : Run P history front k
  pub tame : TameBlock P history front
  pub stops : Stops P (after front history) k rest

-- A tree is kept as far as each block is kept whole, each closed leaf may be closed, and each split is in range and takes a
-- value away on both sides. Where that ends a leaf is open, behind the front that is kept of the block.
abbrev pub Kept : Network → List Event → ℕ → Tree → Tree → Type 0
Kept P history k (Open block) new = (front rest : List Step) × IsFront P history k block front rest × (new ≡ Open front)
Kept P history k (Closed block) new =
    (front rest : List Step) × IsFront P history k block front rest
    × (((rest ≡ []) × CanClose P (after front history) k × (new ≡ Closed front))
    ⊎ (((rest ≡ []) × CanClose P (after front history) k → ⊥) × (new ≡ Open front)))
Kept P history k (Split block d first second) new =
    (front rest : List Step) × IsFront P history k block front rest
    × (((rest ≡ []) × IsDecision P d × IsStrictSplit P (after front history) d
    × ((one two : Tree) × Kept P (Took d ∷ after front history) k first one × Kept P (Refused d ∷ after front history) k second two × (new ≡ Split front d one two)))
    ⊎ (((rest ≡ []) × IsDecision P d × IsStrictSplit P (after front history) d → ⊥) × (new ≡ Open front)))
