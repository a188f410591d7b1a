-- A tree with 32 bits for each number: no network has the greatest such number in range, so every greater one may stand as it.
use Rattle.std.specs.Prelude.{ℕ, min, List, map}
use Rattle.cfn_model.specs.declared.step.Step.{Step}
use Rattle.cfn_model.specs.declared.step.Step.TheVariants.{Project, Extend, Lift, CutValue, CutTuple}
use Rattle.cfn_model.specs.declared.step.Decision.{Decision}
use Rattle.cfn_model.specs.declared.step.Decision.TheVariants.{Is, Most}
use Rattle.cfn_model.specs.declared.step.Event.{Event}
use Rattle.cfn_model.specs.declared.step.Event.TheVariants.{Did, Took, Refused}
use Rattle.cfn_model.specs.Tree as trees
use Rattle.cfn_model.specs.Tree.{Tree}
use Rattle.cfn_fault.specs.Nodes as nodes
use Rattle.cfn_fault.specs.Nodes.{Item}
use Rattle.cfn_machine.specs.Pool.{PoolTree, Leaf, Shut, Fork, Task, Piece, Pool}

-- A number that is too great stands as the greatest one.
abbrev pub cap : ℕ → ℕ
cap n = min n 4294967295

-- All numbers of a step but its amount, which floors are sums of, and all of a decision.
abbrev pub cap_step : Step → Step
cap_step (Project f i a m) = Project (cap f) (cap i) (cap a) m
cap_step (Extend f i a m) = Extend (cap f) (cap i) (cap a) m
cap_step (Lift x m) = Lift (cap x) m
cap_step (CutValue x a) = CutValue (cap x) (cap a)
cap_step (CutTuple f c) = CutTuple (cap f) (cap c)

abbrev pub cap_decision : Decision → Decision
cap_decision (Is x a) = Is (cap x) (cap a)
cap_decision (Most x v) = Most (cap x) (cap v)

abbrev pub cap_block : List Step → List Step
cap_block block = map cap_step block

-- What a line of a node says.
abbrev pub cap_item : Item → Item
cap_item (nodes.Makes step) = nodes.Makes (cap_step step)
cap_item nodes.LeavesOpen = nodes.LeavesOpen
cap_item nodes.Closes = nodes.Closes
cap_item (nodes.Splits d) = nodes.Splits (cap_decision d)

-- Events, and paths of them.
abbrev pub cap_event : Event → Event
cap_event (Did step) = Did (cap_step step)
cap_event (Took d) = Took (cap_decision d)
cap_event (Refused d) = Refused (cap_decision d)

abbrev pub cap_path : List Event → List Event
cap_path path = map cap_event path

-- Trees, also with numbers and marks.
abbrev pub cap_tree : Tree → Tree
cap_tree (trees.Open block) = trees.Open (cap_block block)
cap_tree (trees.Closed block) = trees.Closed (cap_block block)
cap_tree (trees.Split block d first second) = trees.Split (cap_block block) (cap_decision d) (cap_tree first) (cap_tree second)

abbrev pub cap_marked : PoolTree → PoolTree
cap_marked (Leaf number mark block) = Leaf number mark (cap_block block)
cap_marked (Shut block) = Shut (cap_block block)
cap_marked (Fork block d first second) = Fork (cap_block block) (cap_decision d) (cap_marked first) (cap_marked second)

-- A pool, and what is handed out and given.
abbrev pub cap_pool : Pool → Pool
cap_pool pool = record pool { tree = cap_marked pool.tree }

abbrev pub cap_task : Task → Task
cap_task task = record task { path = cap_path task.path }

abbrev pub cap_piece : Piece → Piece
cap_piece piece = record { task = cap_task piece.task; tree = cap_tree piece.tree; threshold = piece.threshold }
