-- What a dive makes of a task.
use Rattle.std.specs.Prelude.{◌≡◌, ℕ, ◌≤◌, Bool, List, None}
use Rattle.cfn_model.specs.declared.limits.TheConstants.{GREATEST}
use Rattle.cfn_model.specs.declared.step.Event.{Event}
use Rattle.cfn_model.specs.Network.{Network}
use Rattle.cfn_model.specs.Paths.{Tame}
use Rattle.cfn_model.specs.Tree.{Valid, Strict, count}
use Rattle.cfn_proof.specs.declared.tree.Node.{Node}
use Rattle.cfn_proof.specs.Nodes.{tree_of}
use Rattle.cfn_machine.specs.Pool.{Task}
use Rattle.cfn_explore.specs.Exploring.{HasEnded}
use Rattle.cfn_dive.specs.declared.growth.Growth.{Growth}
use Rattle.cfn_dive.specs.Growing.{AreEnforced}

-- What is begun: a path, a threshold and the backtracks that are granted, and no node is counted.
pub record Begins (path : List Event) (k allowed : ℕ) (g : Growth) : Type 0 where
  pub base : g.base.value ≡ path
  pub threshold : g.threshold ≡ k
  pub granted : g.granted ≡ allowed
  pub left : g.left ≡ allowed
  pub nodes : g.nodes ≡ 0
  pub some : (g.current ≡ None) → ⊥

-- A tree is a piece's at a threshold, behind enforced blocks, and ended as dives do.
pub record IsMade (P : Network) (task : Task) (granted : ℕ) (timed : Bool) (k : ℕ) (nodes : List Node) (cut : Bool) : Type 0 where
  pub valid : Valid P task.path (tree_of nodes) k
  pub strict : Strict P task.path (tree_of nodes)
  pub tame : Tame P task.path (tree_of nodes)
  pub some : 1 ≤ count (tree_of nodes)
  pub few : count (tree_of nodes) ≤ task.grant
  pub threshold : k ≤ GREATEST
  pub enforced : AreEnforced P task.path (tree_of nodes)
  pub ended : HasEnded task.grant granted timed (tree_of nodes) cut
