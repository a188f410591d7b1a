-- A record of what was done to the pool of open leaves, and the pool that it makes of another one.
use Rattle.std.specs.Prelude.{◌≡◌, ℕ, ◌≤◌, List, [], ◌∷◌, Option, Some, None}
use Rattle.cfn_model.specs.Network.{Network}
use Rattle.cfn_model.specs.Tree.{Tree, count}
use Rattle.cfn_machine.specs.Pool.{Task, Piece, Pool}
use Rattle.cfn_machine.specs.Steps.{PoolTakes, PoolGives, PoolReturns, PoolRecalls, PoolSweeps, PoolStep, Takes, Gives, Returns, Recalls, Sweeps, Meets, Notes, Move}

-- What was done: a worker that wanted so many nodes took a leaf with a grant; it gave a piece for a leaf, made at a threshold; it gave a
-- leaf back; all leaves were called back; or free leaves were swept. What the pool has seen afterwards is in an entry that shows it the
-- word.
pub data Entry : Type 0 where
  Took : (worker want leaf grant : ℕ) → Entry
  Gave : (worker leaf grant threshold seen : ℕ) (tree : Tree) → Entry
  Freed : (worker leaf grant : ℕ) → Entry
  CalledBack : Entry
  Swept : (seen : ℕ) → Entry

-- The pool's step is done as an entry says, with what was seen as the word. Whether a piece is valid is not looked at, but it has 1 to
-- grant split and closed nodes.
abbrev pub Follows : Network → Pool → Entry → Pool → Type 0
Follows P pool (Took worker want leaf grant) new = (task : Task) × PoolTakes P pool worker want task new × (task.leaf ≡ leaf) × (task.grant ≡ grant)
Follows P pool (Gave worker leaf grant threshold seen tree) new =
    (piece : Piece) × PoolGives pool seen piece new
    × (piece.task.worker ≡ worker) × (piece.task.leaf ≡ leaf) × (piece.task.grant ≡ grant) × (piece.threshold ≡ threshold) × (piece.tree ≡ tree)
    × (1 ≤ count tree) × (count tree ≤ grant) × (seen ≤ threshold) × (seen ≤ pool.view.seen)
Follows P pool (Freed worker leaf grant) new = (task : Task) × PoolReturns pool task new × (task.worker ≡ worker) × (task.leaf ≡ leaf) × (task.grant ≡ grant)
Follows P pool CalledBack new = PoolRecalls pool new
Follows P pool (Swept seen) new = PoolSweeps P pool seen new × (seen ≤ pool.view.seen)

-- The entries are done one after another.
abbrev pub Runs : Network → Pool → List Entry → Pool → Type 0
Runs P pool [] new = new ≡ pool
Runs P pool (entry ∷ entries) new = (between : Pool) × Follows P pool entry between × Runs P between entries new

-- What is recorded of a step with the word at its time: nothing of a view that is joined in, nor of a row that is noted.
abbrev pub entry_of : ℕ → PoolStep → Option Entry
entry_of word (Takes worker want task) = Some (Took worker want task.leaf task.grant)
entry_of word (Gives piece) = Some (Gave piece.task.worker piece.task.leaf piece.task.grant piece.threshold word piece.tree)
entry_of word (Returns task) = Some (Freed task.worker task.leaf task.grant)
entry_of word Recalls = Some CalledBack
entry_of word Sweeps = Some (Swept word)
entry_of word (Meets view) = None
entry_of word Notes = None

-- An entry before others, where there is one.
abbrev pub with_entry : Option Entry → List Entry → List Entry
with_entry None entries = entries
with_entry (Some entry) entries = entry ∷ entries

-- What is recorded of a list of steps.
abbrev pub entries_of : List Move → List Entry
entries_of [] = []
entries_of (move ∷ moves) = with_entry (entry_of move.word move.step) (entries_of moves)

-- Two pools have the same tree, numbers, budget and nodes, and the first has seen the second's threshold or a lower one.
pub record IsAlike (pool other : Pool) : Type 0 where
  pub tree : other.tree ≡ pool.tree
  pub next : other.next ≡ pool.next
  pub budget : other.budget ≡ pool.budget
  pub nodes : other.nodes ≡ pool.nodes
  pub seen : pool.view.seen ≤ other.view.seen

-- Two pools are alike, and have seen the same threshold.
pub record IsSame (pool other : Pool) : Type 0 where
  pub tree : other.tree ≡ pool.tree
  pub next : other.next ≡ pool.next
  pub budget : other.budget ≡ pool.budget
  pub nodes : other.nodes ≡ pool.nodes
  pub seen : other.view.seen ≡ pool.view.seen
