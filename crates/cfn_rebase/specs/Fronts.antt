-- How far a block is kept, and how its node ends then.
use Rattle.std.specs.Prelude.{◌≡◌, ℕ, Bool, true, false, List, [], ◌∷◌}
use Rattle.cfn_model.specs.declared.step.Step.{Step}
use Rattle.cfn_model.specs.declared.step.Event.{Event}
use Rattle.cfn_model.specs.Network.{Network}
use Rattle.cfn_model.specs.Steps.{IsDecision, after}
use Rattle.cfn_model.specs.Tree as trees
use Rattle.cfn_model.specs.Tree.{IsStrictSplit}
use Rattle.cfn_proof.specs.declared.tree.End.{End}
use Rattle.cfn_proof.specs.declared.tree.End.TheVariants.{Free, Shut, Split}
use Rattle.cfn_proof.specs.declared.tree.Node.{Node}
use Rattle.cfn_proof.specs.Nodes.{with_children}
use Rattle.cfn_mending.specs.Keeping.{IsFront, Kept}

-- All of a block is kept, or a front behind which a step stands.
abbrev pub IsCutFront : Network → List Event → ℕ → List Step → List Step → Bool → Type 0
IsCutFront P history k block front true = IsFront P history k block front []
IsCutFront P history k block front false = (step : Step) × (rest : List Step) × IsFront P history k block front (step ∷ rest)

-- How a node ends that is kept up to a front of its block: it is left open, or closed, or it stays the split that it is.
abbrev pub IsEnding : Network → List Event → ℕ → Node → List Step → End → Type 0
IsEnding P history k node front Free = (child : ℕ → trees.Tree) → Kept P history k (with_children node.block node.end child) (trees.Open front)
IsEnding P history k node front Shut = (child : ℕ → trees.Tree) → Kept P history k (with_children node.block node.end child) (trees.Closed front)
IsEnding P history k node front (Split d first second) =
    (node.end ≡ Split d first second) × IsFront P history k node.block front [] × IsDecision P d × IsStrictSplit P (after front history) d
