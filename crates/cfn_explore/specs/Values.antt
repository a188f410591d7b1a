-- What contracts see of tasks and pieces: beside each the network that it is of.
use Rattle.std.specs.Prelude.{◌≡◌, ℕ, ◌≤◌, List}
use Rattle.cfn_model.specs.declared.limits.TheConstants.{GREATEST}
use Rattle.cfn_model.specs.Network.{Network}
use Rattle.cfn_proof.specs.declared.tree.Node.{Node as Branching}
use Rattle.cfn_proof.specs.Nodes.{tree_of}
use Rattle.cfn_machine.specs.Pool.{Task, Piece, IsPiece}

-- A task of a network.
pub record TaskValue : Type 0 where
  pub network : Network
  pub task : Task

-- A piece of a network, its tree as a list of nodes.
pub record PieceValue : Type 0 where
  pub network : Network
  pub task : Task
  pub nodes : List Branching
  pub threshold : ℕ

-- The piece that it is.
abbrev pub piece_of : PieceValue → Piece
piece_of p = record { task = p.task; tree = tree_of p.nodes; threshold = p.threshold }

-- It keeps what pieces keep, at a threshold that fits.
pub record IsPieceValue (p : PieceValue) : Type 0 where
  pub piece : IsPiece p.network (piece_of p)
  pub threshold : p.threshold ≤ GREATEST

-- A task is of this network.
abbrev pub IsTaskOf : Network → TaskValue → Type 0
IsTaskOf P task = task.network ≡ P
