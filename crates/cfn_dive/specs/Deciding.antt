-- By which decision a leaf is split.
use Rattle.std.specs.Prelude.{◌≡◌, ℕ, List, Option}
use Rattle.cfn_model.specs.declared.step.Event.{Event}
use Rattle.cfn_model.specs.declared.step.Decision.{Decision}
use Rattle.cfn_model.specs.declared.step.Decision.TheVariants.{Is, Most}
use Rattle.cfn_model.specs.Certificate.{Solution}
use Rattle.cfn_model.specs.Network.{Network}
use Rattle.cfn_model.specs.Steps.{after}
use Rattle.cfn_proof.specs.declared.tree.NodeId.{NodeId}
use Rattle.cfn_proof.specs.declared.tree.Node.{Node}
use Rattle.cfn_proof.specs.declared.tree.End.TheVariants.{Split}
use Rattle.cfn_store.specs.Standing.{Standing, history}
use Rattle.cfn_branch.specs.declared.rule.Rule.{Rule}
use Rattle.cfn_branch.specs.declared.rule.Rule.TheVariants.{Degrees, Fewest}
use Rattle.cfn_branch.specs.Choosing.{IsChosen}
use Rattle.cfn_branch.specs.Fewest.{IsFewestSplit}
use Rattle.cfn_dive.specs.Values.{IsFirstValue}

-- A variable that the weights choose is the value that a split tries first.
abbrev pub IsByDegrees : Standing → List ℕ → Option Solution → Decision → Type 0
IsByDegrees s weights best (Is x a) = IsChosen s weights x × IsFirstValue s best x a
IsByDegrees s weights best (Most x v) = ⊥

-- A decision is what a rule names.
abbrev pub IsByRule : Rule → Standing → List ℕ → Option Solution → Decision → Type 0
IsByRule Degrees s weights best d = IsByDegrees s weights best d
IsByRule Fewest s weights best d = IsFewestSplit s d

-- Where a node is split, behind a path and its block, the decision is what the rule names there.
abbrev pub IsSplitByRule : Rule → Network → List ℕ → Option Solution → List Event → Node → Type 0
IsSplitByRule rule P weights best path node = (d : Decision) (first second : NodeId) → node.end ≡ Split d first second
    → (s : Standing) × (s.network ≡ P) × (history s ≡ after node.block path) × IsByRule rule s weights best d
