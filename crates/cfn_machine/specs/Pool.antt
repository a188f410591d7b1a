-- The pool: a search tree whose open leaves are handed out to workers (branch and bound as in Allouche et al. 2015).
use Rattle.std.specs.Prelude.{◌≡◌, ℕ, ◌+◌, ◌<◌, ◌≤◌, ◌⊎◌, Bool, true, false, List, [], ◌∷◌, ◌++◌, Option, Some, None, IfSome, if◌then◌else◌, nat_le, nat_lt, ◌==◌}
use Rattle.cfn_model.specs.declared.step.Step.{Step}
use Rattle.cfn_model.specs.declared.step.Decision.{Decision}
use Rattle.cfn_model.specs.declared.step.Event.{Event}
use Rattle.cfn_model.specs.declared.step.Event.TheVariants.{Took, Refused}
use Rattle.cfn_model.specs.declared.report.Row.{Row}
use Rattle.std.specs.List.{AllByRecursion}
use Rattle.cfn_model.specs.Network.{Network, Fits, cost}
use Rattle.cfn_model.specs.Sums.{floor}
use Rattle.cfn_model.specs.Steps.{after}
use Rattle.cfn_model.specs.Decisions.{holds}
use Rattle.cfn_model.specs.Tree.{Tree, Open, Closed, Split, bound, count, splits, open_leaves, Valid, Strict}
use Rattle.cfn_model.specs.Paths.{RunsAlong, Tame, TameAlong}

-- An open leaf is free, or out: handed to a worker, who may make that many nodes.
pub data Mark : Type 0 where
  Free : Mark
  Out : (worker grant : ℕ) → Mark

-- A search tree whose open leaves have a number and a mark.
pub data PoolTree : Type 0 where
  Leaf : (number : ℕ) (mark : Mark) (block : List Step) → PoolTree
  Shut : (block : List Step) → PoolTree
  Fork : (block : List Step) (decision : Decision) (first second : PoolTree) → PoolTree

-- The search tree that it is: free leaves and leaves that are out are open.
abbrev pub tree_of : PoolTree → Tree
tree_of (Leaf number mark block) = Open block
tree_of (Shut block) = Closed block
tree_of (Fork block d first second) = Split block d (tree_of first) (tree_of second)

-- An open leaf of the tree: its number, its mark, and its path, which is what stands before it and then its own block,
-- the newest event first.
abbrev pub IsLeaf : PoolTree → List Event → ℕ → Mark → List Event → Type 0
IsLeaf (Leaf number mark block) history n m path = (number ≡ n) × (mark ≡ m) × (path ≡ after block history)
IsLeaf (Shut block) history n m path = ⊥
IsLeaf (Fork block d first second) history n m path =
    IsLeaf first (Took d ∷ after block history) n m path ⊎ IsLeaf second (Refused d ∷ after block history) n m path

-- A leaf of the tree, open or closed, and its path, the newest event first.
abbrev pub IsAnyLeaf : PoolTree → List Event → PoolTree → List Event → Type 0
IsAnyLeaf (Leaf number mark block) history leaf path = (leaf ≡ Leaf number mark block) × (path ≡ after block history)
IsAnyLeaf (Shut block) history leaf path = (leaf ≡ Shut block) × (path ≡ after block history)
IsAnyLeaf (Fork block d first second) history leaf path =
    IsAnyLeaf first (Took d ∷ after block history) leaf path ⊎ IsAnyLeaf second (Refused d ∷ after block history) leaf path

-- The leaf of an assignment: at each split the first side where the decision holds, and else the second.
abbrev pub leaf_of : List ℕ → PoolTree → PoolTree
leaf_of values (Leaf number mark block) = Leaf number mark block
leaf_of values (Shut block) = Shut block
leaf_of values (Fork block d first second) = if holds d values then leaf_of values first else leaf_of values second

-- A tree whose first block is put behind a block.
abbrev pub behind : List Step → PoolTree → PoolTree
behind block (Leaf number mark more) = Leaf number mark (block ++ more)
behind block (Shut more) = Shut (block ++ more)
behind block (Fork more d first second) = Fork (block ++ more) d first second

-- What a tree becomes where another takes the place of one of its open leaves, behind the leaf's own block: the leaf with
-- this number, mark and path.
abbrev pub Replaced : PoolTree → List Event → ℕ → Mark → List Event → PoolTree → PoolTree → Type 0
Replaced (Leaf number mark block) history n m path place new = (number ≡ n) × (mark ≡ m) × (path ≡ after block history) × (new ≡ behind block place)
Replaced (Shut block) history n m path place new = ⊥
Replaced (Fork block d first second) history n m path place new =
    ((below : PoolTree) × Replaced first (Took d ∷ after block history) n m path place below × (new ≡ Fork block d below second))
    ⊎ ((below : PoolTree) × Replaced second (Refused d ∷ after block history) n m path place below × (new ≡ Fork block d first below))

-- The nodes that may still be made below leaves that are out.
abbrev pub grant_of : Mark → ℕ
grant_of Free = 0
grant_of (Out worker grant) = grant

abbrev pub granted : PoolTree → ℕ
granted (Leaf number mark block) = grant_of mark
granted (Shut block) = 0
granted (Fork block d first second) = granted first + granted second

-- A tree's open leaves get the numbers from next on, in the order of the tree's text, and are free.
abbrev pub numbered : ℕ → Tree → PoolTree
numbered next (Open block) = Leaf next Free block
numbered next (Closed block) = Shut block
numbered next (Split block d first second) = Fork block d (numbered next first) (numbered (next + open_leaves first) second)

-- Open leaves that a part does not have are set aside: each is out with a grant of 0, and so to nobody, since a task may
-- make a node at least.
abbrev pub mark_for : Bool → Mark
mark_for true = Free
mark_for false = Out 0 0

abbrev pub dealt : (ℕ → Bool) → PoolTree → PoolTree
dealt mine (Leaf number mark block) = Leaf number (mark_for (mine number)) block
dealt mine (Shut block) = Shut block
dealt mine (Fork block d first second) = Fork block d (dealt mine first) (dealt mine second)

-- How many open leaves are active: free, or in a worker's hand. Those that are set aside are not.
abbrev pub active_mark : Mark → ℕ
active_mark Free = 1
active_mark (Out worker grant) = if grant == 0 then 0 else 1

abbrev pub active_leaves : PoolTree → ℕ
active_leaves (Leaf number mark block) = active_mark mark
active_leaves (Shut block) = 0
active_leaves (Fork block d first second) = active_leaves first + active_leaves second

-- Every leaf that is out is free again.
abbrev pub recalled : PoolTree → PoolTree
recalled (Leaf number mark block) = Leaf number Free block
recalled (Shut block) = Shut block
recalled (Fork block d first second) = Fork block d (recalled first) (recalled second)

-- Each free leaf whose floor, behind its block, is at least k is closed with its block.
abbrev pub swept : Network → ℕ → PoolTree → List Event → PoolTree
swept P k (Leaf number Free block) history = if nat_le k (floor P (after block history)) then Shut block else Leaf number Free block
swept P k (Leaf number (Out worker grant) block) history = Leaf number (Out worker grant) block
swept P k (Shut block) history = Shut block
swept P k (Fork block d first second) history =
    Fork block d (swept P k first (Took d ∷ after block history)) (swept P k second (Refused d ∷ after block history))

-- A leaf that a worker has in hand: its number, the worker, how many nodes it may make, the floor, and the leaf's path.
pub record Task : Type 0 where
  pub leaf : ℕ
  pub worker : ℕ
  pub grant : ℕ
  pub floor : ℕ
  pub path : List Event

-- What a task keeps: its path runs at some threshold and is tame, and it may make a node at least.
pub record IsTask (P : Network) (task : Task) : Type 0 where
  pub runs : (k : ℕ) × RunsAlong P task.path k
  pub tame : TameAlong P task.path
  pub floor : task.floor ≡ floor P task.path
  pub some : 1 ≤ task.grant

-- What a worker made of a task: the tree behind its leaf's path, and the threshold that it was made at.
pub record Piece : Type 0 where
  pub task : Task
  pub tree : Tree
  pub threshold : ℕ

-- What a piece keeps: its tree goes on from the leaf, and has 1 to grant splits and closed leaves.
pub record IsPiece (P : Network) (piece : Piece) : Type 0 where
  pub valid : Valid P piece.task.path piece.tree piece.threshold
  pub strict : Strict P piece.task.path piece.tree
  pub tame : Tame P piece.task.path piece.tree
  pub some : 1 ≤ count piece.tree
  pub few : count piece.tree ≤ piece.task.grant

-- What a holder has of the word: the best assignment that it keeps, the threshold that it has seen, and its shares.
pub record View : Type 0 where
  pub best : Option (List ℕ)
  pub seen : ℕ
  pub shares : ℕ

-- The price of an assignment is its cost; of none it is the upper bound.
abbrev pub price : Network → Option (List ℕ) → ℕ
price P None = P.upper
price P (Some values) = cost P values

-- The cheaper of two, the first where both cost the same.
abbrev pub cheaper : Network → Option (List ℕ) → Option (List ℕ) → Option (List ℕ)
cheaper P best other = if nat_lt (price P other) (price P best) then other else best

-- What is kept where there is one fits the network.
abbrev pub KeepsFitting : Network → Option (List ℕ) → Type 0
KeepsFitting P None = Unit {0}
KeepsFitting P (Some values) = Fits P.sizes values

-- The row of bounds that a tree has at a threshold: its bound there, and the threshold where it is below the upper bound.
abbrev pub row_of : Network → Tree → ℕ → Row
row_of P tree seen = record { lower = bound P [] tree seen; upper = if nat_lt seen P.upper then Some seen else None }

-- The pool's state. The numbers of leaves are below next. The tree that it began with had so many splits and closed leaves
-- as begun says, and nodes are those that were made since.
pub record Pool : Type 0 where
  pub tree : PoolTree
  pub next : ℕ
  pub budget : ℕ
  pub begun : ℕ
  pub nodes : ℕ
  pub rows : List Row
  pub view : View

-- What a row of bounds keeps: its lower number is at most every cost and at most the floor of each open leaf; its upper
-- number, where it has one, is below the upper bound and at least the threshold that the pool has seen.
pub record IsRow (P : Network) (tree : PoolTree) (seen : ℕ) (row : Row) : Type 0 where
  pub costs : (values : List ℕ) → Fits P.sizes values → row.lower ≤ cost P values
  pub floors : (n : ℕ) (mark : Mark) (path : List Event) → IsLeaf tree [] n mark path → row.lower ≤ floor P path
  pub upper : IfSome row.upper (λ u. (u < P.upper) × (seen ≤ u))

-- A sound pool: its tree is valid, strict and tame at the threshold seen; besides those that it began with each split is
-- counted, and no more nodes are counted than the tree has; the nodes keep to the
-- budget; and each row keeps what rows keep.
pub record IsSound (P : Network) (pool : Pool) : Type 0 where
  pub seen : pool.view.seen ≤ P.upper
  pub valid : Valid P [] (tree_of pool.tree) pool.view.seen
  pub strict : Strict P [] (tree_of pool.tree)
  pub tame : Tame P [] (tree_of pool.tree)
  pub expanded : splits (tree_of pool.tree) ≤ pool.begun + pool.nodes
  pub counted : pool.begun + pool.nodes ≤ count (tree_of pool.tree)
  pub within : pool.nodes + granted pool.tree ≤ pool.budget
  pub rows : AllByRecursion (IsRow P pool.tree pool.view.seen) pool.rows

-- How many open leaves have a number.
abbrev pub leaves_with : ℕ → PoolTree → ℕ
leaves_with n (Leaf number mark block) = if number == n then 1 else 0
leaves_with n (Shut block) = 0
leaves_with n (Fork block d first second) = leaves_with n first + leaves_with n second

-- Each open leaf of the pool has a number of its own, and the numbers from next on are fresh.
pub record AreNumbered (pool : Pool) : Type 0 where
  pub different : (n : ℕ) → leaves_with n pool.tree ≤ 1
  pub fresh : (n : ℕ) → pool.next ≤ n → leaves_with n pool.tree ≡ 0

-- The opening with a kept tree and what is kept of assignments: every open leaf of the tree is free, with numbers in the
-- order of its text, and no node is made yet. What was seen is the price of the best that is kept, and the first
-- row is of that.
abbrev pub opening_with : Network → ℕ → ℕ → Tree → Option (List ℕ) → Pool
opening_with P shares budget tree best = record {
  tree = numbered 0 tree;
  next = open_leaves tree;
  budget = budget;
  begun = count tree;
  nodes = 0;
  rows = row_of P tree (price P best) ∷ [];
  view = record { best = best; seen = price P best; shares = shares };
}

-- The same with the leaves set aside that a part does not have.
abbrev pub opening_part : (ℕ → Bool) → Network → ℕ → ℕ → Tree → Option (List ℕ) → Pool
opening_part mine P shares budget tree best = record (opening_with P shares budget tree best) { tree = dealt mine (numbered 0 tree) }

-- What a kept tree and a kept assignment have to be.
pub record IsKept (P : Network) (tree : Tree) (best : Option (List ℕ)) : Type 0 where
  pub valid : Valid P [] tree (price P best)
  pub strict : Strict P [] tree
  pub tame : Tame P [] tree
  pub fits : KeepsFitting P best

-- The usual opening: one open leaf with an empty block, and nothing found.
abbrev pub new_view : Network → ℕ → View
new_view P shares = record { best = None; seen = P.upper; shares = shares }

abbrev pub opening_pool : Network → ℕ → ℕ → Pool
opening_pool P shares budget = opening_with P shares budget (Open []) None
