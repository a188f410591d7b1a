-- What holds of the pool, whatever steps are done and in whatever order.
use Rattle.std.specs.Prelude.{◌≡◌, ◌↔◌, Bool, ℕ, ◌+◌, ◌<◌, ◌≤◌, ◌⊎◌, min, List, [], ◌∷◌, ◌++◌, length, Contains, Option}
use Rattle.cfn_model.specs.declared.step.Event.{Event}
use Rattle.cfn_model.specs.Sums.{floor}
use Rattle.cfn_model.specs.Network.{Network, IsNetwork, Fits, cost}
use Rattle.cfn_model.specs.Tree.{Tree, OpenBelow, open_leaves}
use Rattle.cfn_model.specs.Paths.{Agrees}
use Rattle.cfn_machine.specs.Pool.{Mark, Out, PoolTree, Leaf, Shut, Fork, tree_of, IsLeaf, IsAnyLeaf, leaf_of, Task, IsTask, Piece, View, Pool, IsSound, AreNumbered, price, KeepsFitting, IsKept, opening_with, opening_part, opening_pool, row_of, numbered, dealt, recalled, swept}
use Rattle.cfn_machine.specs.Parts.{others_from, IsAside, EndsAt, OpenAt, HasOwn, AllOthers, HasActiveBelow, NoneActiveBelow}
use Rattle.cfn_machine.specs.Steps.{PoolTakes, Lack, HasNone, IsOut, PoolGives, IsNotOut, PoolReturns, PoolSweeps, joined, PoolStep, Takes, Gives, Returns, Recalls, Sweeps, Meets, Notes, PoolSteps, IsLegal, Move, PoolRuns}

-- The pool is sound, its leaves have numbers of their own, and what it keeps fits.
pub record IsPool (P : Network) (pool : Pool) : Type 0 where
  pub sound : IsSound P pool
  pub numbered : AreNumbered pool
  pub keeps : KeepsFitting P pool.view.best

-- It holds at the opening, each legal step keeps it, and so does every list of them.
abbrev pub Opens : Type 0
Opens = (P : Network) (shares budget : ℕ) → IsNetwork P → IsPool P (opening_pool P shares budget)

abbrev pub OpensWith : Type 0
OpensWith = (P : Network) (shares budget : ℕ) (tree : Tree) (best : Option (List ℕ)) → IsNetwork P → IsKept P tree best → IsPool P (opening_with P shares budget tree best)

-- So with leaves set aside.
abbrev pub OpensPart : Type 0
OpensPart = (mine : ℕ → Bool) (P : Network) (shares budget : ℕ) (tree : Tree) (best : Option (List ℕ)) → IsNetwork P → IsKept P tree best → IsPool P (opening_part mine P shares budget tree best)

-- The leaves that are left to others are set aside then, and no more; and where all leaves were called back and swept each is
-- still there, open or closed.
abbrev pub SetsAside : Type 0
SetsAside = (mine : ℕ → Bool) (tree : Tree) (path : List Event) → Contains (others_from mine 0 [] tree) path ↔ IsAside (dealt mine (numbered 0 tree)) path

abbrev pub EndsOthers : Type 0
EndsOthers = (P : Network) (k : ℕ) (tree : PoolTree) (path : List Event) → IsAside tree path → EndsAt (tree_of (swept P k (recalled tree) [])) [] path

-- A leaf that is set aside stays so until all leaves are called back, where a task that is given back may make a node at least.
abbrev pub MayMake : PoolStep → Type 0
MayMake (Takes worker want task) = Unit {0}
MayMake (Gives piece) = Unit {0}
MayMake (Returns task) = 1 ≤ task.grant
MayMake Recalls = ⊥
MayMake Sweeps = Unit {0}
MayMake (Meets view) = Unit {0}
MayMake Notes = Unit {0}

abbrev pub KeepsAside : Type 0
KeepsAside = (P : Network) (pool new : Pool) (word : ℕ) (step : PoolStep) → AreNumbered pool → IsLegal P pool word step → MayMake step → PoolSteps P pool word step new →
    (n worker : ℕ) (path : List Event) → IsLeaf pool.tree [] n (Out worker 0) path → IsLeaf new.tree [] n (Out worker 0) path

-- No step sets another aside.
abbrev pub WasAside : Type 0
WasAside = (P : Network) (pool new : Pool) (word : ℕ) (step : PoolStep) → IsPool P pool → PoolSteps P pool word step new → (path : List Event) → IsAside new.tree path → IsAside pool.tree path

-- Where all leaves are called back and swept at a threshold, some open leaf is a search's own where one that was not set aside had
-- a floor below the threshold, and all are others' where none had.
abbrev pub TellsOwnLeaves : Type 0
TellsOwnLeaves = (P : Network) (k : ℕ) (tree : PoolTree) (aside : List (List Event)) → ((path : List Event) → Contains aside path ↔ IsAside tree path) →
    (HasActiveBelow P tree k → HasOwn aside (tree_of (swept P k (recalled tree) []))) × (NoneActiveBelow P tree k → AllOthers aside (tree_of (swept P k (recalled tree) [])))

-- A tree has open leaves exactly where it has paths of open leaves.
abbrev pub HasPaths : Type 0
HasPaths = (tree : Tree) → (0 < open_leaves tree) ↔ ((path : List Event) × OpenAt tree [] path)

abbrev pub KeepsSound : Type 0
KeepsSound = (P : Network) (pool new : Pool) (word : ℕ) (step : PoolStep) → IsLegal P pool word step → IsSound P pool → PoolSteps P pool word step new → IsSound P new

abbrev pub KeepsNumbered : Type 0
KeepsNumbered = (P : Network) (pool new : Pool) (word : ℕ) (step : PoolStep) → AreNumbered pool → PoolSteps P pool word step new → AreNumbered new

abbrev pub Keeps : Type 0
Keeps = (P : Network) (pool new : Pool) (word : ℕ) (step : PoolStep) → IsLegal P pool word step → IsPool P pool → PoolSteps P pool word step new → IsPool P new

abbrev pub Holds : Type 0
Holds = (P : Network) (pool new : Pool) (moves : List Move) → IsPool P pool → PoolRuns P pool moves new → IsPool P new

-- The rows that are there stay, in their order, and so the opening's is the first; each step adds one at most.
abbrev pub KeepsRows : Type 0
KeepsRows = (P : Network) (pool new : Pool) (word : ℕ) (step : PoolStep) → PoolSteps P pool word step new →
    (new.rows ≡ pool.rows) ⊎ ((step ≡ Notes) × (length pool.rows < 256) × (new.rows ≡ pool.rows ++ row_of P (tree_of pool.tree) pool.view.seen ∷ []))

-- Of all leaves of the tree, closed ones too, exactly one has a path that agrees with an assignment: the assignment's
-- leaf.
pub record AgreesOnce (tree : PoolTree) (values : List ℕ) : Type 0 where
  pub path : List Event
  pub there : IsAnyLeaf tree [] (leaf_of values tree) path
  pub agrees : Agrees values path
  pub only : (leaf : PoolTree) (other : List Event) → IsAnyLeaf tree [] leaf other → Agrees values other → (leaf ≡ leaf_of values tree) × (other ≡ path)

abbrev pub Agreed : Type 0
Agreed = (tree : PoolTree) (values : List ℕ) → AgreesOnce tree values

-- An assignment is covered by its leaf: the leaf is open, free or out, or it is closed and the assignment costs at least
-- the threshold that the pool has seen.
abbrev pub IsCovered : Network → Pool → List ℕ → PoolTree → Type 0
IsCovered P pool values (Leaf n mark block) = Unit {0}
IsCovered P pool values (Shut block) = pool.view.seen ≤ cost P values
IsCovered P pool values (Fork block d first second) = ⊥

abbrev pub Covered : Type 0
Covered = (P : Network) (pool : Pool) (values : List ℕ) → IsNetwork P → IsSound P pool → Fits P.sizes values → IsCovered P pool values (leaf_of values pool.tree)

-- The floor at a leaf is at least that of the whole network.
abbrev pub Rises : Type 0
Rises = (P : Network) (tree : PoolTree) (n : ℕ) (mark : Mark) (path : List Event) → IsLeaf tree [] n mark path → floor P [] ≤ floor P path

-- After a sweep with no leaf out, the floor of each open leaf is below the threshold that the pool has seen.
abbrev pub SweepsAll : Type 0
SweepsAll = (P : Network) (pool new : Pool) (word : ℕ) → ((n worker grant : ℕ) (path : List Event) → IsLeaf pool.tree [] n (Out worker grant) path → ⊥) →
    PoolSweeps P pool word new → OpenBelow P [] (tree_of new.tree) new.view.seen

-- A task that is taken keeps what a task keeps, is its worker's, and may make no more nodes than are wanted. Its leaf is
-- out from then on.
abbrev pub HandsOutTasks : Type 0
HandsOutTasks = (P : Network) (pool new : Pool) (worker want : ℕ) (task : Task) → IsSound P pool → PoolTakes P pool worker want task new →
    IsTask P task × (task.worker ≡ worker) × (task.grant ≤ want)

abbrev pub TakesOut : Type 0
TakesOut = (P : Network) (pool new : Pool) (worker want : ℕ) (task : Task) → PoolTakes P pool worker want task new → IsOut new task

-- A step ends a leaf's being out: its piece or its task is given, or all leaves are called back. No other step does.
abbrev pub Ends : PoolStep → ℕ → Type 0
Ends (Takes worker want task) n = ⊥
Ends (Gives piece) n = piece.task.leaf ≡ n
Ends (Returns task) n = task.leaf ≡ n
Ends Recalls n = Unit {0}
Ends Sweeps n = ⊥
Ends (Meets view) n = ⊥
Ends Notes n = ⊥

abbrev pub StaysOut : Type 0
StaysOut = (P : Network) (pool new : Pool) (word : ℕ) (step : PoolStep) (task : Task) → PoolSteps P pool word step new → IsOut pool task → (Ends step task.leaf → ⊥) → IsOut new task

-- A task whose leaf is out after a step is the one that the step hands out, or its leaf was out before and stays so.
abbrev pub IsTaken : PoolStep → Task → Type 0
IsTaken (Takes worker want task) other = other ≡ task
IsTaken (Gives piece) other = ⊥
IsTaken (Returns task) other = ⊥
IsTaken Recalls other = ⊥
IsTaken Sweeps other = ⊥
IsTaken (Meets view) other = ⊥
IsTaken Notes other = ⊥

abbrev pub WasOut : Type 0
WasOut = (P : Network) (pool new : Pool) (word : ℕ) (step : PoolStep) (task : Task) → AreNumbered pool → PoolSteps P pool word step new → IsOut new task → task.floor ≡ floor P task.path →
    (IsOut pool task × (Ends step task.leaf → ⊥)) ⊎ IsTaken step task

-- A worker that wants nodes takes a leaf, or there is none to take for one reason, and not both.
abbrev pub TakesOrNone : Type 0
TakesOrNone = (P : Network) (pool : Pool) (worker want : ℕ) → 1 ≤ want → ((task : Task) × (new : Pool) × PoolTakes P pool worker want task new) ⊎ ((lack : Lack) × HasNone pool lack)

abbrev pub NeverBoth : Type 0
NeverBoth = (P : Network) (pool new : Pool) (worker want : ℕ) (task : Task) (lack : Lack) → PoolTakes P pool worker want task new → HasNone pool lack → ⊥

abbrev pub OneLack : Type 0
OneLack = (pool : Pool) (lack other : Lack) → HasNone pool lack → HasNone pool other → lack ≡ other

-- A piece can be given exactly where its task's leaf is out, and a task given back exactly where its leaf is out to its
-- worker with its grant.
abbrev pub GivesOrNot : Type 0
GivesOrNot = (pool : Pool) (word : ℕ) (piece : Piece) → ((new : Pool) × PoolGives pool word piece new) ⊎ (IsOut pool piece.task → ⊥)

abbrev pub GivesOut : Type 0
GivesOut = (pool new : Pool) (word : ℕ) (piece : Piece) → PoolGives pool word piece new → IsOut pool piece.task

abbrev pub ReturnsOrNot : Type 0
ReturnsOrNot = (pool : Pool) (task : Task) → ((new : Pool) × PoolReturns pool task new) ⊎ IsNotOut pool task

abbrev pub ReturnsOut : Type 0
ReturnsOut = (pool new : Pool) (task : Task) → PoolReturns pool task new → IsNotOut pool task → ⊥

-- Where leaves have numbers of their own, a step leaves one pool, and a taking hands out one task.
abbrev pub OneTask : Type 0
OneTask = (P : Network) (pool new another : Pool) (worker want : ℕ) (task other : Task) → AreNumbered pool → PoolTakes P pool worker want task new → PoolTakes P pool worker want other another → (task ≡ other) × (new ≡ another)

abbrev pub OnePool : Type 0
OnePool = (P : Network) (pool new another : Pool) (word : ℕ) (step : PoolStep) → AreNumbered pool → PoolSteps P pool word step new → PoolSteps P pool word step another → new ≡ another

-- A view that is joined: the price of what is kept, and what was seen, become the lesser ones, and the shares add up.
pub record IsJoined (P : Network) (view other new : View) : Type 0 where
  pub price : price P new.best ≡ min (price P view.best) (price P other.best)
  pub seen : new.seen ≡ min view.seen other.seen
  pub shares : new.shares ≡ view.shares + other.shares
  pub keeps : KeepsFitting P view.best → KeepsFitting P other.best → KeepsFitting P new.best

abbrev pub Joins : Type 0
Joins = (P : Network) (view other : View) → IsJoined P view other (joined P view other)
