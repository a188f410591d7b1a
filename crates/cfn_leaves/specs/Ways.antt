-- Paths of nodes, and the way down to one.
use Rattle.std.specs.Prelude.{◌≡◌, ℕ, ◌<◌, List, [], ◌∷◌, length, Option, MatchOption}
use Rattle.cfn_model.specs.declared.step.Event.{Event}
use Rattle.cfn_model.specs.Steps.{after}
use Rattle.cfn_proof.specs.declared.path.Side.{Side}
use Rattle.cfn_proof.specs.Legs.{event_of}
use Rattle.cfn_proof.specs.declared.tree.NodeId.{NodeId}
use Rattle.cfn_proof.specs.declared.tree.Node.{Node}
use Rattle.cfn_proof.specs.Nodes.{node_at, Before}

-- The path of a node: what stands before it, and then its block.
pub record IsPathOf (nodes : List Node) (i : ℕ) (path : List Event) : Type 0 where
  pub above : List Event
  pub before : Before nodes i above
  pub is : path ≡ after (node_at nodes i).block above

-- The path of a node's parent, or nothing at the root.
abbrev pub EndsAbove : List Node → ℕ → List Event → Type 0
EndsAbove nodes i path = MatchOption (node_at nodes i).parent (path ≡ []) (λ up. IsPathOf nodes up.number path)

-- The side of its parent's split that a node is, if it has a parent: it goes between the parent's path and the node.
abbrev pub IsSide : List Node → ℕ → Option Side → Type 0
IsSide nodes i side =
    (path : List Event) → EndsAbove nodes i path → MatchOption side (path ≡ [] × Before nodes i []) (λ side. Before nodes i (event_of side ∷ path))

-- The nodes lead from a path's end down to a node: each comes after the path of its parent.
abbrev pub Goes : List Node → ℕ → List Event → List NodeId → Type 0
Goes nodes i path [] = IsPathOf nodes i path
Goes nodes i path (id ∷ way) =
    (id.number < length nodes) × EndsAbove nodes id.number path × ((new : List Event) → IsPathOf nodes id.number new → Goes nodes i new way)
