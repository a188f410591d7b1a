-- What is done to the pool, each a step that leaves another pool. The word, the least price that was found, is none of
-- the pool's: a step that shows it to the pool has its value as an argument.
use Rattle.std.specs.Prelude.{◌≡◌, ◌≢◌, ℕ, ◌+◌, ◌-◌, ◌<◌, ◌≤◌, ◌⊎◌, min, List, [], ◌∷◌, ◌++◌, length, Option, Some, None, Bool, true, false, if◌then◌else◌, nat_lt, ◌==◌}
use Rattle.cfn_model.specs.declared.step.Event.{Event}
use Rattle.cfn_model.specs.declared.report.Row.{Row}
use Rattle.cfn_model.specs.Network.{Network, IsNetwork}
use Rattle.cfn_model.specs.Sums.{floor}
use Rattle.cfn_model.specs.Tree.{count, open_leaves}
use Rattle.cfn_machine.specs.Pool.{Free, Out, PoolTree, Leaf, tree_of, IsLeaf, Replaced, granted, numbered, active_leaves, recalled, swept, Task, Piece, IsPiece, View, Pool, cheaper, KeepsFitting, row_of}

-- A free leaf is handed out: one of least floor, the least number among those.
pub record IsFirst (P : Network) (tree : PoolTree) (n : ℕ) (path : List Event) : Type 0 where
  pub leaf : IsLeaf tree [] n Free path
  pub first : (m : ℕ) (other : List Event) → IsLeaf tree [] m Free other → (floor P path < floor P other) ⊎ ((floor P path ≡ floor P other) × (n ≤ m))

-- The task's grant is what is wanted, or what the budget has left.
abbrev pub task_for : Network → Pool → ℕ → ℕ → ℕ → List Event → Task
task_for P pool worker want n path = record {
  leaf = n;
  worker = worker;
  grant = min want (pool.budget - (pool.nodes + granted pool.tree));
  floor = floor P path;
  path = path;
}

-- A worker takes a leaf: the first free one is out to it from then on.
pub record PoolTakes (P : Network) (pool : Pool) (worker want : ℕ) (task : Task) (new : Pool) : Type 0 where
  pub wants : 1 ≤ want
  pub unspent : pool.nodes ≢ pool.budget
  pub room : pool.nodes + granted pool.tree ≢ pool.budget
  pub first : IsFirst P pool.tree task.leaf task.path
  pub handed : task ≡ task_for P pool worker want task.leaf task.path
  pub tree : PoolTree
  pub marked : Replaced pool.tree [] task.leaf Free task.path (Leaf task.leaf (Out worker task.grant) []) tree
  pub left : new ≡ record pool { tree = tree }

-- Why there is no leaf to take: none is open; the budget is spent; all open leaves are out, or all that the budget has
-- left is granted.
pub data Lack : Type 0 where
  NoneOpen : Lack
  AllSpent : Lack
  AllOut : Lack

abbrev pub HasNone : Pool → Lack → Type 0
HasNone pool NoneOpen = active_leaves pool.tree ≡ 0
HasNone pool AllSpent = (0 < active_leaves pool.tree) × (pool.nodes ≡ pool.budget)
HasNone pool AllOut = (0 < active_leaves pool.tree) × (pool.nodes ≢ pool.budget)
    × (((n : ℕ) (path : List Event) → IsLeaf pool.tree [] n Free path → ⊥) ⊎ (pool.nodes + granted pool.tree ≡ pool.budget))

-- A task's leaf is out to its worker with its grant, and has its path.
abbrev pub IsOut : Pool → Task → Type 0
IsOut pool task = IsLeaf pool.tree [] task.leaf (Out task.worker task.grant) task.path

-- A piece is given: it takes the place of its task's leaf, which has to be out, behind the leaf's own block, and the pool
-- sees the word.
pub record PoolGives (pool : Pool) (word : ℕ) (piece : Piece) (new : Pool) : Type 0 where
  pub tree : PoolTree
  pub placed : Replaced pool.tree [] piece.task.leaf (Out piece.task.worker piece.task.grant) piece.task.path (numbered pool.next piece.tree) tree
  pub left : new ≡ record pool {
    tree = tree;
    next = pool.next + open_leaves piece.tree;
    nodes = pool.nodes + count piece.tree;
    view = record pool.view { seen = word };
  }

-- A task is given back: its leaf, which has to be out to its worker with its grant, is free again.
abbrev pub IsNotOut : Pool → Task → Type 0
IsNotOut pool task = (path : List Event) → IsLeaf pool.tree [] task.leaf (Out task.worker task.grant) path → ⊥

pub record PoolReturns (pool : Pool) (task : Task) (new : Pool) : Type 0 where
  pub path : List Event
  pub tree : PoolTree
  pub freed : Replaced pool.tree [] task.leaf (Out task.worker task.grant) path (Leaf task.leaf Free []) tree
  pub left : new ≡ record pool { tree = tree }

-- Every leaf that is out is called back.
abbrev pub pool_recalled : Pool → Pool
pool_recalled pool = record pool { tree = recalled pool.tree }

abbrev pub PoolRecalls : Pool → Pool → Type 0
PoolRecalls pool new = new ≡ pool_recalled pool

-- The pool sees the word, and closes what need not be searched.
abbrev pub pool_swept : Network → Pool → ℕ → Pool
pool_swept P pool word = record pool { tree = swept P word pool.tree []; view = record pool.view { seen = word } }

abbrev pub PoolSweeps : Network → Pool → ℕ → Pool → Type 0
PoolSweeps P pool word new = new ≡ pool_swept P pool word

-- A view is joined into the pool's.
abbrev pub joined : Network → View → View → View
joined P view other = record { best = cheaper P view.best other.best; seen = min view.seen other.seen; shares = view.shares + other.shares }

abbrev pub pool_met : Network → Pool → View → Pool
pool_met P pool view = record pool { view = joined P pool.view view }

abbrev pub PoolMeets : Network → Pool → View → Pool → Type 0
PoolMeets P pool view new = new ≡ pool_met P pool view

-- The row of now is kept, where it differs from the last one and there are fewer than 256.
abbrev pub is_same_upper : Option ℕ → Option ℕ → Bool
is_same_upper None None = true
is_same_upper None (Some v) = false
is_same_upper (Some u) None = false
is_same_upper (Some u) (Some v) = u == v

abbrev pub is_last : Row → List Row → Bool
is_last row [] = false
is_last row (last ∷ []) = if row.lower == last.lower then is_same_upper row.upper last.upper else false
is_last row (other ∷ (next ∷ rows)) = is_last row (next ∷ rows)

abbrev pub pool_noted : Network → Pool → Pool
pool_noted P pool =
    let row = row_of P (tree_of pool.tree) pool.view.seen in
    if nat_lt (length pool.rows) 256 then (if is_last row pool.rows then pool else record pool { rows = pool.rows ++ row ∷ [] }) else pool

abbrev pub PoolNotes : Network → Pool → Pool → Type 0
PoolNotes P pool new = new ≡ pool_noted P pool

-- A step by its name, with what it brings or hands out.
pub data PoolStep : Type 0 where
  Takes : (worker want : ℕ) (task : Task) → PoolStep
  Gives : (piece : Piece) → PoolStep
  Returns : (task : Task) → PoolStep
  Recalls : PoolStep
  Sweeps : PoolStep
  Meets : (view : View) → PoolStep
  Notes : PoolStep

abbrev pub PoolSteps : Network → Pool → ℕ → PoolStep → Pool → Type 0
PoolSteps P pool word (Takes worker want task) new = PoolTakes P pool worker want task new
PoolSteps P pool word (Gives piece) new = PoolGives pool word piece new
PoolSteps P pool word (Returns task) new = PoolReturns pool task new
PoolSteps P pool word Recalls new = PoolRecalls pool new
PoolSteps P pool word Sweeps new = PoolSweeps P pool word new
PoolSteps P pool word (Meets view) new = PoolMeets P pool view new
PoolSteps P pool word Notes new = PoolNotes P pool new

-- What a step brings is of the network: a piece is one, with a threshold of at least the word, and what a view keeps
-- fits. A word that the pool is shown is at most what it has seen. A row is noted of what is a network.
abbrev pub IsLegal : Network → Pool → ℕ → PoolStep → Type 0
IsLegal P pool word (Takes worker want task) = Unit {0}
IsLegal P pool word (Gives piece) = IsPiece P piece × (word ≤ piece.threshold) × (word ≤ pool.view.seen)
IsLegal P pool word (Returns task) = Unit {0}
IsLegal P pool word Recalls = Unit {0}
IsLegal P pool word Sweeps = word ≤ pool.view.seen
IsLegal P pool word (Meets view) = KeepsFitting P view.best
IsLegal P pool word Notes = IsNetwork P

-- A list of legal steps from a pool on, each with the word at its time.
pub record Move : Type 0 where
  pub word : ℕ
  pub step : PoolStep

abbrev pub PoolRuns : Network → Pool → List Move → Pool → Type 0
PoolRuns P pool [] new = new ≡ pool
PoolRuns P pool (move ∷ moves) new =
    (between : Pool) × IsLegal P pool move.word move.step × PoolSteps P pool move.word move.step between × PoolRuns P between moves new
