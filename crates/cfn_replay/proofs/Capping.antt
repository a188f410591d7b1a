-- A step of a pool is a step of the pool with 32 bits for each number.
use Rattle.std.proofs.Common.{◌≡◌, ℕ, ◌+◌, ◌-◌, inl, inr, List, [], ◌∷◌, ◌++◌, min, refl, sym, ap, ap₂, ◌∙◌, subst, arith, if◌then◌else◌, Bool, true, false, nat_le}
use Rattle.cfn_model.specs.declared.step.Step.{Step}
use Rattle.cfn_model.specs.declared.step.Step.TheVariants.{Project, Extend, Lift, CutValue, CutTuple}
use Rattle.cfn_model.specs.declared.step.Event.{Event}
use Rattle.cfn_model.specs.declared.step.Event.TheVariants.{Did, Took, Refused}
use Rattle.cfn_model.specs.Network.{Network}
use Rattle.cfn_model.specs.Sums.{floor, lifted}
use Rattle.cfn_model.specs.Steps.{after}
use Rattle.cfn_model.specs.Tree.{Tree, Open, Closed, Split, bound, count, open_leaves}
use Rattle.cfn_machine.specs.Pool.{Mark, Free, Out, PoolTree, Leaf, Shut, Fork, tree_of, IsLeaf, Replaced, behind, granted, numbered, active_leaves, recalled, swept, leaves_with, Task, Piece, Pool}
use Rattle.cfn_machine.specs.Steps.{IsFirst, PoolTakes, PoolGives, PoolReturns, Lack, NoneOpen, AllSpent, AllOut, HasNone}
use Rattle.cfn_replay.specs.Capping.{cap_step, cap_decision, cap_block, cap_event, cap_path, cap_tree, cap_marked, cap_pool, cap_task, cap_piece}

-- paths and their floors
pub after_cap : (block : List Step) (history : List Event) → after (cap_block block) (cap_path history) ≡ cap_path (after block history)
after_cap [] history = refl
after_cap (step ∷ block) history = after_cap block (Did step ∷ history)

lifted_cap : (event : Event) → lifted (cap_event event) ≡ lifted event
lifted_cap (Did (Project f i a m)) = refl
lifted_cap (Did (Extend f i a m)) = refl
lifted_cap (Did (Lift x m)) = refl
lifted_cap (Did (CutValue x a)) = refl
lifted_cap (Did (CutTuple f c)) = refl
lifted_cap (Took d) = refl
lifted_cap (Refused d) = refl

pub floor_cap : (P : Network) (history : List Event) → floor P (cap_path history) ≡ floor P history
floor_cap P [] = refl
floor_cap P (event ∷ history) = ap₂ (λ a b. a + b) (lifted_cap event) (floor_cap P history)

floor_after : (P : Network) (block : List Step) (history : List Event) → floor P (after (cap_block block) (cap_path history)) ≡ floor P (after block history)
floor_after P block history = ap (floor P) (after_cap block history) ∙ floor_cap P (after block history)

block_append : (a b : List Step) → cap_block (a ++ b) ≡ cap_block a ++ cap_block b
block_append [] b = refl
block_append (step ∷ a) b = ap (λ s. cap_step step ∷ s) (block_append a b)

-- counts
pub open_cap : (tree : Tree) → open_leaves (cap_tree tree) ≡ open_leaves tree
open_cap (Open block) = refl
open_cap (Closed block) = refl
open_cap (Split block d first second) = ap₂ (λ a b. a + b) (open_cap first) (open_cap second)

pub count_cap : (tree : Tree) → count (cap_tree tree) ≡ count tree
count_cap (Open block) = refl
count_cap (Closed block) = refl
count_cap (Split block d first second) = ap₂ (λ a b. 1 + (a + b)) (count_cap first) (count_cap second)

pub granted_cap : (tree : PoolTree) → granted (cap_marked tree) ≡ granted tree
granted_cap (Leaf number mark block) = refl
granted_cap (Shut block) = refl
granted_cap (Fork block d first second) = ap₂ (λ a b. a + b) (granted_cap first) (granted_cap second)

pub active_cap : (tree : PoolTree) → active_leaves (cap_marked tree) ≡ active_leaves tree
active_cap (Leaf number mark block) = refl
active_cap (Shut block) = refl
active_cap (Fork block d first second) = ap₂ (λ a b. a + b) (active_cap first) (active_cap second)

pub leaves_cap : (n : ℕ) (tree : PoolTree) → leaves_with n (cap_marked tree) ≡ leaves_with n tree
leaves_cap n (Leaf number mark block) = refl
leaves_cap n (Shut block) = refl
leaves_cap n (Fork block d first second) = ap₂ (λ a b. a + b) (leaves_cap n first) (leaves_cap n second)

-- trees that are made of others
pub tree_cap : (tree : PoolTree) → tree_of (cap_marked tree) ≡ cap_tree (tree_of tree)
tree_cap (Leaf number mark block) = refl
tree_cap (Shut block) = refl
tree_cap (Fork block d first second) = ap₂ (λ f s. Split (cap_block block) (cap_decision d) f s) (tree_cap first) (tree_cap second)

pub numbered_cap : (next : ℕ) (tree : Tree) → cap_marked (numbered next tree) ≡ numbered next (cap_tree tree)
numbered_cap next (Open block) = refl
numbered_cap next (Closed block) = refl
numbered_cap next (Split block d first second) =
    ap₂ (λ f s. Fork (cap_block block) (cap_decision d) f s) (numbered_cap next first) (numbered_cap (next + open_leaves first) second)
    ∙ ap (λ n. Fork (cap_block block) (cap_decision d) (numbered next (cap_tree first)) (numbered (next + n) (cap_tree second))) (sym (open_cap first))

behind_cap : (block : List Step) (tree : PoolTree) → cap_marked (behind block tree) ≡ behind (cap_block block) (cap_marked tree)
behind_cap block (Leaf number mark more) = ap (λ b. Leaf number mark b) (block_append block more)
behind_cap block (Shut more) = ap (λ b. Shut b) (block_append block more)
behind_cap block (Fork more d first second) = ap (λ b. Fork b (cap_decision d) (cap_marked first) (cap_marked second)) (block_append block more)

pub recalled_cap : (tree : PoolTree) → cap_marked (recalled tree) ≡ recalled (cap_marked tree)
recalled_cap (Leaf number mark block) = refl
recalled_cap (Shut block) = refl
recalled_cap (Fork block d first second) = ap₂ (λ f s. Fork (cap_block block) (cap_decision d) f s) (recalled_cap first) (recalled_cap second)

swept_by : (b : Bool) (number : ℕ) (block : List Step) → cap_marked (if b then Shut block else Leaf number Free block) ≡ (if b then Shut (cap_block block) else Leaf number Free (cap_block block))
swept_by true number block = refl
swept_by false number block = refl

pub swept_cap : (P : Network) (k : ℕ) (tree : PoolTree) (history : List Event) → cap_marked (swept P k tree history) ≡ swept P k (cap_marked tree) (cap_path history)
swept_cap P k (Leaf number Free block) history =
    swept_by (nat_le k (floor P (after block history))) number block
    ∙ ap (λ low. if nat_le k low then Shut (cap_block block) else Leaf number Free (cap_block block)) (sym (floor_after P block history))
swept_cap P k (Leaf number (Out worker grant) block) history = refl
swept_cap P k (Shut block) history = refl
swept_cap P k (Fork block d first second) history =
    ap₂ (λ f s. Fork (cap_block block) (cap_decision d) f s) (swept_cap P k first (Took d ∷ after block history)) (swept_cap P k second (Refused d ∷ after block history))
    ∙ ap (λ h. Fork (cap_block block) (cap_decision d) (swept P k (cap_marked first) (Took (cap_decision d) ∷ h)) (swept P k (cap_marked second) (Refused (cap_decision d) ∷ h))) (sym (after_cap block history))

pub bound_cap : (P : Network) (history : List Event) (tree : Tree) (k : ℕ) → bound P (cap_path history) (cap_tree tree) k ≡ bound P history tree k
bound_cap P history (Open block) k = ap (λ low. min k low) (floor_after P block history)
bound_cap P history (Closed block) k = refl
bound_cap P history (Split block d first second) k =
    ap (λ h. min (bound P (Took (cap_decision d) ∷ h) (cap_tree first) k) (bound P (Refused (cap_decision d) ∷ h) (cap_tree second) k)) (after_cap block history)
    ∙ ap₂ (λ a b. min a b) (bound_cap P (Took d ∷ after block history) first k) (bound_cap P (Refused d ∷ after block history) second k)

-- leaves
pub leaf_cap : (tree : PoolTree) (history : List Event) (n : ℕ) (mark : Mark) (path : List Event) → IsLeaf tree history n mark path → IsLeaf (cap_marked tree) (cap_path history) n mark (cap_path path)
leaf_cap (Leaf number m block) history n mark path at = (at.0, at.1, ap cap_path at.2 ∙ sym (after_cap block history))
leaf_cap (Shut block) history n mark path at = absurd at
leaf_cap (Fork block d first second) history n mark path (inl at) =
    inl (subst (λ h. IsLeaf (cap_marked first) (Took (cap_decision d) ∷ h) n mark (cap_path path)) (sym (after_cap block history)) (leaf_cap first (Took d ∷ after block history) n mark path at))
leaf_cap (Fork block d first second) history n mark path (inr at) =
    inr (subst (λ h. IsLeaf (cap_marked second) (Refused (cap_decision d) ∷ h) n mark (cap_path path)) (sym (after_cap block history)) (leaf_cap second (Refused d ∷ after block history) n mark path at))

pub record CameFrom (tree : PoolTree) (history : List Event) (n : ℕ) (mark : Mark) (path : List Event) : Type 0 where
  pub own : List Event
  pub leaf : IsLeaf tree history n mark own
  pub is : path ≡ cap_path own

pub leaf_back : (tree : PoolTree) (history : List Event) (n : ℕ) (mark : Mark) (path : List Event) → IsLeaf (cap_marked tree) (cap_path history) n mark path → CameFrom tree history n mark path
leaf_back (Leaf number m block) history n mark path at = record { own = after block history; leaf = (at.0, at.1, refl); is = at.2 ∙ after_cap block history }
leaf_back (Shut block) history n mark path at = absurd at
leaf_back (Fork block d first second) history n mark path (inl at) =
    let b = leaf_back first (Took d ∷ after block history) n mark path (subst (λ h. IsLeaf (cap_marked first) (Took (cap_decision d) ∷ h) n mark path) (after_cap block history) at) in
    record { own = b.own; leaf = inl b.leaf; is = b.is }
leaf_back (Fork block d first second) history n mark path (inr at) =
    let b = leaf_back second (Refused d ∷ after block history) n mark path (subst (λ h. IsLeaf (cap_marked second) (Refused (cap_decision d) ∷ h) n mark path) (after_cap block history) at) in
    record { own = b.own; leaf = inr b.leaf; is = b.is }

pub replaced_cap : (n : ℕ) (mark : Mark) (path : List Event) (place tree : PoolTree) (history : List Event) (new : PoolTree) → Replaced tree history n mark path place new →
    Replaced (cap_marked tree) (cap_path history) n mark (cap_path path) (cap_marked place) (cap_marked new)
replaced_cap n mark path place (Leaf number m block) history new at = (at.0, at.1, ap cap_path at.2 ∙ sym (after_cap block history), ap cap_marked at.3 ∙ behind_cap block place)
replaced_cap n mark path place (Shut block) history new at = absurd at
replaced_cap n mark path place (Fork block d first second) history new (inl at) =
    inl (
      cap_marked at.0,
      subst (λ h. Replaced (cap_marked first) (Took (cap_decision d) ∷ h) n mark (cap_path path) (cap_marked place) (cap_marked at.0)) (sym (after_cap block history))
          (replaced_cap n mark path place first (Took d ∷ after block history) at.0 at.1),
      ap cap_marked at.2,
    )
replaced_cap n mark path place (Fork block d first second) history new (inr at) =
    inr (
      cap_marked at.0,
      subst (λ h. Replaced (cap_marked second) (Refused (cap_decision d) ∷ h) n mark (cap_path path) (cap_marked place) (cap_marked at.0)) (sym (after_cap block history))
          (replaced_cap n mark path place second (Refused d ∷ after block history) at.0 at.1),
      ap cap_marked at.2,
    )

-- the pool's steps
first_cap : (P : Network) (tree : PoolTree) (n : ℕ) (path : List Event) → IsFirst P tree n path → IsFirst P (cap_marked tree) n (cap_path path)
first_cap P tree n path first = record {
  leaf = leaf_cap tree [] n Free path first.leaf;
  first = λ m other at.
      let b = leaf_back tree [] m Free other at in
      let low = floor_cap P path in
      let low' : floor P other ≡ floor P b.own = ap (floor P) b.is ∙ floor_cap P b.own in
      elim (first.first m b.own b.leaf) [ inl less ↦ inl (omega (arith, less, low, low')) | inr same ↦ inr (low ∙ same.0 ∙ sym low', same.1) ];
}

pub takes_cap : (P : Network) (pool new : Pool) (worker want : ℕ) (task : Task) → PoolTakes P pool worker want task new → PoolTakes P (cap_pool pool) worker want (cap_task task) (cap_pool new)
takes_cap P pool new worker want task t = record {
  wants = t.wants;
  unspent = t.unspent;
  room = λ all. t.room (ap (λ g. pool.nodes + g) (sym (granted_cap pool.tree)) ∙ all);
  first = first_cap P pool.tree task.leaf task.path t.first;
  handed =
      ap cap_task t.handed
      ∙ ap (λ g. record { leaf = task.leaf; worker = worker; grant = min want (pool.budget - (pool.nodes + g)); floor = floor P task.path; path = cap_path task.path }) (sym (granted_cap pool.tree))
      ∙ ap (λ f. record { leaf = task.leaf; worker = worker; grant = min want (pool.budget - (pool.nodes + granted (cap_marked pool.tree))); floor = f; path = cap_path task.path }) (sym (floor_cap P task.path));
  tree = cap_marked t.tree;
  marked = replaced_cap task.leaf Free task.path (Leaf task.leaf (Out worker task.grant) []) pool.tree [] t.tree t.marked;
  left = ap cap_pool t.left;
}

pub gives_cap : (pool new : Pool) (word : ℕ) (piece : Piece) → PoolGives pool word piece new → PoolGives (cap_pool pool) word (cap_piece piece) (cap_pool new)
gives_cap pool new word piece g = record {
  tree = cap_marked g.tree;
  placed = subst (λ place. Replaced (cap_marked pool.tree) [] piece.task.leaf (Out piece.task.worker piece.task.grant) (cap_path piece.task.path) place (cap_marked g.tree)) (numbered_cap pool.next piece.tree)
      (replaced_cap piece.task.leaf (Out piece.task.worker piece.task.grant) piece.task.path (numbered pool.next piece.tree) pool.tree [] g.tree g.placed);
  left =
      ap cap_pool g.left
      ∙ ap₂ (λ o m. record pool { tree = cap_marked g.tree; next = pool.next + o; nodes = pool.nodes + m; view = record pool.view { seen = word } }) (sym (open_cap piece.tree)) (sym (count_cap piece.tree));
}

pub returns_cap : (pool new : Pool) (task : Task) → PoolReturns pool task new → PoolReturns (cap_pool pool) (cap_task task) (cap_pool new)
returns_cap pool new task r = record {
  path = cap_path r.path;
  tree = cap_marked r.tree;
  freed = replaced_cap task.leaf (Out task.worker task.grant) r.path (Leaf task.leaf Free []) pool.tree [] r.tree r.freed;
  left = ap cap_pool r.left;
}

pub lack_cap : (pool : Pool) (lack : Lack) → HasNone pool lack → HasNone (cap_pool pool) lack
lack_cap pool NoneOpen none = active_cap pool.tree ∙ none
lack_cap pool AllSpent none = (let a = active_cap pool.tree in omega (arith, a, none.0), none.1)
lack_cap pool AllOut (some, unspent, inl none) =
    (let a = active_cap pool.tree in omega (arith, a, some), unspent, inl (λ n path at. (let b = leaf_back pool.tree [] n Free path at in none n b.own b.leaf)))
lack_cap pool AllOut (some, unspent, inr all) = (let a = active_cap pool.tree in omega (arith, a, some), unspent, inr (let g = granted_cap pool.tree in omega (arith, g, all)))
