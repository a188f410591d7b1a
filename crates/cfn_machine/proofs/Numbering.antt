-- Numbers of open leaves stay different.
use Rattle.std.proofs.Common.{◌≡◌, ◌≢◌, ℕ, ◌+◌, ◌<◌, ◌≤◌, ◌⊎◌, inl, inr, List, [], ◌∷◌, refl, sym, ap₂, ◌∙◌, subst, arith, true, false, Bool, nat_le, if◌then◌else◌, ◌==◌, eq-eqb, Option, eqb-true}
use Rattle.std.proofs.lemmas.Bool.{cases_lt}
use Rattle.cfn_model.specs.declared.step.Step.{Step}
use Rattle.cfn_model.specs.declared.step.Event.{Event}
use Rattle.cfn_model.specs.declared.step.Event.TheVariants.{Took, Refused}
use Rattle.cfn_model.specs.Network.{Network}
use Rattle.cfn_model.specs.Sums.{floor}
use Rattle.cfn_model.specs.Steps.{after}
use Rattle.cfn_model.specs.Tree.{Tree, Open, Closed, Split, open_leaves}
use Rattle.cfn_machine.specs.Pool.{Mark, Free, Out, PoolTree, Leaf, Shut, Fork, IsLeaf, Replaced, numbered, recalled, swept, Piece, View, Pool, leaves_with, AreNumbered, behind, opening_with, tree_of, row_of}
use Rattle.cfn_machine.specs.Steps.{PoolGives, Takes, Gives, Returns, Recalls, Sweeps, Meets, pool_recalled, pool_swept}
use Rattle.cfn_machine.specs.Steps.{Notes, is_last, pool_noted}
use Rattle.std.proofs.Common.{◌++◌, length, nat_lt}
use Rattle.cfn_model.specs.declared.report.Row.{Row}
use Rattle.cfn_machine.specs.Laws.{KeepsNumbered}
use Rattle.cfn_machine.proofs.Placing.{after_append}

-- a leaf counts under its number
one_at : (a b : ℕ) → a ≡ b → leaves_with b (Leaf a Free []) ≡ 1
one_at a b h = let e : (a == b) ≡ true = eq-eqb a b h in rw e refl

one_or_none : Bool → ℕ
one_or_none t = if t then 1 else 0

none_by : (t : Bool) (a b : ℕ) → (a == b) ≡ t → a ≢ b → one_or_none t ≡ 0
unfolding one_or_none
none_by true a b h other = absurd (other (eqb-true a b h))
none_by false a b h other = refl

none_at : (a b : ℕ) → a ≢ b → leaves_with b (Leaf a Free []) ≡ 0
unfolding one_or_none
none_at a b other = none_by (a == b) a b refl other

few_by : (t : Bool) → (if t then 1 else 0) ≤ 1
few_by true = omega arith
few_by false = omega arith

pub leaf_counts : (tree : PoolTree) (history : List Event) (n : ℕ) (mark : Mark) (path : List Event) → IsLeaf tree history n mark path → 1 ≤ leaves_with n tree
leaf_counts (Leaf number m block) history n mark path at = omega (arith, one_at number n at.0)
leaf_counts (Shut block) history n mark path at = absurd at
leaf_counts (Fork block d first second) history n mark path (inl at) = omega (arith, leaf_counts first (Took d ∷ after block history) n mark path at)
leaf_counts (Fork block d first second) history n mark path (inr at) = omega (arith, leaf_counts second (Refused d ∷ after block history) n mark path at)

-- a tree behind a block has the leaves that it had
behind_numbers : (block : List Step) (m : ℕ) (tree : PoolTree) → leaves_with m (behind block tree) ≡ leaves_with m tree
behind_numbers block m (Leaf n mark more) = refl
behind_numbers block m (Shut more) = refl
behind_numbers block m (Fork more d first second) = refl

leaf_behind : (block : List Step) (history : List Event) (m : ℕ) (k : Mark) (p : List Event) (tree : PoolTree) → IsLeaf tree (after block history) m k p → IsLeaf (behind block tree) history m k p
leaf_behind block history m k p (Leaf n mark more) at = (at.0, at.1, at.2 ∙ sym (after_append block more history))
leaf_behind block history m k p (Shut more) at = at
leaf_behind block history m k p (Fork more d first second) at = subst (λ h. IsLeaf first (Took d ∷ h) m k p ⊎ IsLeaf second (Refused d ∷ h) m k p) (sym (after_append block more history)) at

pub leaf_before : (block : List Step) (history : List Event) (m : ℕ) (k : Mark) (p : List Event) (tree : PoolTree) → IsLeaf (behind block tree) history m k p → IsLeaf tree (after block history) m k p
leaf_before block history m k p (Leaf n mark more) at = (at.0, at.1, at.2 ∙ after_append block more history)
leaf_before block history m k p (Shut more) at = at
leaf_before block history m k p (Fork more d first second) at = subst (λ h. IsLeaf first (Took d ∷ h) m k p ⊎ IsLeaf second (Refused d ∷ h) m k p) (after_append block more history) at

-- a tree in the place of one leaf
module _ (n : ℕ) (mark : Mark) (path : List Event) (place : PoolTree) where
  pub replaced_leaf : (tree : PoolTree) (history : List Event) (new : PoolTree) → Replaced tree history n mark path place new → IsLeaf tree history n mark path
  replaced_leaf (Leaf number m block) history new at = (at.0, at.1, at.2)
  replaced_leaf (Shut block) history new at = absurd at
  replaced_leaf (Fork block d first second) history new (inl at) = inl (replaced_leaf first (Took d ∷ after block history) at.0 at.1)
  replaced_leaf (Fork block d first second) history new (inr at) = inr (replaced_leaf second (Refused d ∷ after block history) at.0 at.1)

  pub replaced_numbers : (m : ℕ) (tree : PoolTree) (history : List Event) (new : PoolTree) → Replaced tree history n mark path place new →
      leaves_with m new + (if n == m then 1 else 0) ≡ leaves_with m tree + leaves_with m place
  replaced_numbers m (Leaf number k block) history new at = rw at.3 (rw at.0 (omega (arith, behind_numbers block m place)))
  replaced_numbers m (Shut block) history new at = absurd at
  replaced_numbers m (Fork block d first second) history new (inl at) =
      let below = replaced_numbers m first (Took d ∷ after block history) at.0 at.1 in rw at.2 (omega (arith, below))
  replaced_numbers m (Fork block d first second) history new (inr at) =
      let below = replaced_numbers m second (Refused d ∷ after block history) at.0 at.1 in rw at.2 (omega (arith, below))

  -- a leaf that is there afterwards is of the new part, or was there under another number
  pub replaced_back : (m : ℕ) (k : Mark) (p : List Event) (tree : PoolTree) (history : List Event) (new : PoolTree) → Replaced tree history n mark path place new →
      leaves_with n tree ≤ 1 → IsLeaf new history m k p → IsLeaf place path m k p ⊎ (IsLeaf tree history m k p × (m ≢ n))
  replaced_back m k p (Leaf number l block) history new at one leaf =
      inl (subst (λ h. IsLeaf place h m k p) (sym at.2) (leaf_before block history m k p place (subst (λ t. IsLeaf t history m k p) at.3 leaf)))
  replaced_back m k p (Shut block) history new at one leaf = absurd at
  replaced_back m k p (Fork block d first second) history new (inl at) one leaf =
      let there = leaf_counts first (Took d ∷ after block history) n mark path (replaced_leaf first (Took d ∷ after block history) at.0 at.1) in
      let leaf' : IsLeaf (Fork block d at.0 second) history m k p = subst (λ t. IsLeaf t history m k p) at.2 leaf in
      elim leaf' [
        | inl here ↦ elim (replaced_back m k p first (Took d ∷ after block history) at.0 at.1 (omega (arith, one)) here) [ inl fresh ↦ inl fresh | inr old ↦ inr (inl old.0, old.1) ]
        | inr here ↦ inr (inr here, λ same. (let c = leaf_counts second (Refused d ∷ after block history) n k p (subst (λ j. IsLeaf second (Refused d ∷ after block history) j k p) same here) in omega (arith, c, there, one)))
      ]
  replaced_back m k p (Fork block d first second) history new (inr at) one leaf =
      let there = leaf_counts second (Refused d ∷ after block history) n mark path (replaced_leaf second (Refused d ∷ after block history) at.0 at.1) in
      let leaf' : IsLeaf (Fork block d first at.0) history m k p = subst (λ t. IsLeaf t history m k p) at.2 leaf in
      elim leaf' [
        | inl here ↦ inr (inl here, λ same. (let c = leaf_counts first (Took d ∷ after block history) n k p (subst (λ j. IsLeaf first (Took d ∷ after block history) j k p) same here) in omega (arith, c, there, one)))
        | inr here ↦ elim (replaced_back m k p second (Refused d ∷ after block history) at.0 at.1 (omega (arith, one)) here) [ inl fresh ↦ inl fresh | inr old ↦ inr (inr old.0, old.1) ]
      ]

  -- a leaf of the new part is there afterwards
  pub replaced_in : (m : ℕ) (k : Mark) (p : List Event) (tree : PoolTree) (history : List Event) (new : PoolTree) → Replaced tree history n mark path place new →
      IsLeaf place path m k p → IsLeaf new history m k p
  replaced_in m k p (Leaf number l block) history new at leaf = subst (λ t. IsLeaf t history m k p) (sym at.3) (leaf_behind block history m k p place (subst (λ h. IsLeaf place h m k p) at.2 leaf))
  replaced_in m k p (Shut block) history new at leaf = absurd at
  replaced_in m k p (Fork block d first second) history new (inl at) leaf =
      subst (λ t. IsLeaf t history m k p) (sym at.2) (inl (replaced_in m k p first (Took d ∷ after block history) at.0 at.1 leaf))
  replaced_in m k p (Fork block d first second) history new (inr at) leaf =
      subst (λ t. IsLeaf t history m k p) (sym at.2) (inr (replaced_in m k p second (Refused d ∷ after block history) at.0 at.1 leaf))

  -- another leaf stays
  pub replaced_stays : (m : ℕ) (k : Mark) (p : List Event) (tree : PoolTree) (history : List Event) (new : PoolTree) → Replaced tree history n mark path place new →
      IsLeaf tree history m k p → ((m ≡ n) × (k ≡ mark)) ⊎ IsLeaf new history m k p
  replaced_stays m k p (Leaf number l block) history new at leaf = inl (sym leaf.0 ∙ at.0, sym leaf.1 ∙ at.1)
  replaced_stays m k p (Shut block) history new at leaf = absurd at
  replaced_stays m k p (Fork block d first second) history new (inl at) (inl leaf) =
      elim (replaced_stays m k p first (Took d ∷ after block history) at.0 at.1 leaf) [ inl same ↦ inl same | inr stays ↦ inr (subst (λ t. IsLeaf t history m k p) (sym at.2) (inl stays)) ]
  replaced_stays m k p (Fork block d first second) history new (inl at) (inr leaf) = inr (subst (λ t. IsLeaf t history m k p) (sym at.2) (inr leaf))
  replaced_stays m k p (Fork block d first second) history new (inr at) (inl leaf) = inr (subst (λ t. IsLeaf t history m k p) (sym at.2) (inl leaf))
  replaced_stays m k p (Fork block d first second) history new (inr at) (inr leaf) =
      elim (replaced_stays m k p second (Refused d ∷ after block history) at.0 at.1 leaf) [ inl same ↦ inl same | inr stays ↦ inr (subst (λ t. IsLeaf t history m k p) (sym at.2) (inr stays)) ]

pub free_not_out : {worker grant : ℕ} {C : Type 0} → Free ≡ Out worker grant → C
free_not_out h = absurd (cc)

-- the leaves of a numbered tree
pub same_worker : {a b c d : ℕ} → Out a b ≡ Out c d → a ≡ c
same_worker h = cc

pub same_grant : {a b c d : ℕ} → Out a b ≡ Out c d → b ≡ d
same_grant h = cc

pub numbered_before : (tree : Tree) (next m : ℕ) → m < next → leaves_with m (numbered next tree) ≡ 0
numbered_before (Open block) next m h = none_at next m (λ e. omega (arith, e))
numbered_before (Closed block) next m h = refl
numbered_before (Split block d first second) next m h = omega (arith, numbered_before first next m h, numbered_before second (next + open_leaves first) m (omega arith))

pub numbered_behind : (tree : Tree) (next m : ℕ) → next + open_leaves tree ≤ m → leaves_with m (numbered next tree) ≡ 0
numbered_behind (Open block) next m h = none_at next m (λ e. omega (arith, e))
numbered_behind (Closed block) next m h = refl
numbered_behind (Split block d first second) next m h = omega (arith, numbered_behind first next m (omega arith), numbered_behind second (next + open_leaves first) m (omega arith))

pub numbered_once : (tree : Tree) (next m : ℕ) → leaves_with m (numbered next tree) ≤ 1
numbered_once (Open block) next m = few_by (next == m)
numbered_once (Closed block) next m = omega arith
numbered_once (Split block d first second) next m = elim (cases_lt m (next + open_leaves first)) [
  | inl low ↦ omega (arith, numbered_once first next m, numbered_before second (next + open_leaves first) m low)
  | inr high ↦ omega (arith, numbered_behind first next m high, numbered_once second (next + open_leaves first) m)
]

pub numbered_free : (tree : Tree) (next m : ℕ) (history : List Event) (worker grant : ℕ) (path : List Event) → IsLeaf (numbered next tree) history m (Out worker grant) path → ⊥
numbered_free (Open block) next m history worker grant path at = free_not_out at.1
numbered_free (Closed block) next m history worker grant path at = at
numbered_free (Split block d first second) next m history worker grant path (inl at) = numbered_free first next m (Took d ∷ after block history) worker grant path at
numbered_free (Split block d first second) next m history worker grant path (inr at) = numbered_free second (next + open_leaves first) m (Refused d ∷ after block history) worker grant path at

-- leaves that are called back
pub recalled_numbers : (tree : PoolTree) (m : ℕ) → leaves_with m (recalled tree) ≡ leaves_with m tree
recalled_numbers (Leaf number mark block) m = refl
recalled_numbers (Shut block) m = refl
recalled_numbers (Fork block d first second) m = ap₂ (λ f s. f + s) (recalled_numbers first m) (recalled_numbers second m)

pub recalled_free : (tree : PoolTree) (m : ℕ) (history : List Event) (worker grant : ℕ) (path : List Event) → IsLeaf (recalled tree) history m (Out worker grant) path → ⊥
recalled_free (Leaf number mark block) m history worker grant path at = free_not_out at.1
recalled_free (Shut block) m history worker grant path at = at
recalled_free (Fork block d first second) m history worker grant path (inl at) = recalled_free first m (Took d ∷ after block history) worker grant path at
recalled_free (Fork block d first second) m history worker grant path (inr at) = recalled_free second m (Refused d ∷ after block history) worker grant path at

-- free leaves that are closed
module _ (P : Network) (k : ℕ) where
  fewer_by : (t : Bool) (n m : ℕ) (block : List Step) → leaves_with m (if t then Shut block else Leaf n Free block) ≤ leaves_with m (Leaf n Free block)
  fewer_by true n m block = omega arith
  fewer_by false n m block = omega arith

  pub swept_numbers : (tree : PoolTree) (m : ℕ) (history : List Event) → leaves_with m (swept P k tree history) ≤ leaves_with m tree
  swept_numbers (Leaf n Free block) m history = fewer_by (nat_le k (floor P (after block history))) n m block
  swept_numbers (Leaf n (Out w g) block) m history = omega arith
  swept_numbers (Shut block) m history = omega arith
  swept_numbers (Fork block d first second) m history =
      omega (arith, swept_numbers first m (Took d ∷ after block history), swept_numbers second m (Refused d ∷ after block history))

  no_leaf_by : (t : Bool) (n m : ℕ) (block : List Step) (history : List Event) (worker grant : ℕ) (path : List Event) → IsLeaf (if t then Shut block else Leaf n Free block) history m (Out worker grant) path → ⊥
  no_leaf_by true n m block history worker grant path at = at
  no_leaf_by false n m block history worker grant path at = free_not_out at.1

  pub swept_back : (tree : PoolTree) (m : ℕ) (history : List Event) (worker grant : ℕ) (path : List Event) → IsLeaf (swept P k tree history) history m (Out worker grant) path → IsLeaf tree history m (Out worker grant) path
  swept_back (Leaf n Free block) m history worker grant path at = absurd (no_leaf_by (nat_le k (floor P (after block history))) n m block history worker grant path at)
  swept_back (Leaf n (Out w g) block) m history worker grant path at = at
  swept_back (Shut block) m history worker grant path at = at
  swept_back (Fork block d first second) m history worker grant path (inl at) = inl (swept_back first m (Took d ∷ after block history) worker grant path at)
  swept_back (Fork block d first second) m history worker grant path (inr at) = inr (swept_back second m (Refused d ∷ after block history) worker grant path at)

  pub swept_stays : (tree : PoolTree) (m : ℕ) (history : List Event) (worker grant : ℕ) (path : List Event) → IsLeaf tree history m (Out worker grant) path → IsLeaf (swept P k tree history) history m (Out worker grant) path
  swept_stays (Leaf n Free block) m history worker grant path at = free_not_out at.1
  swept_stays (Leaf n (Out w g) block) m history worker grant path at = at
  swept_stays (Shut block) m history worker grant path at = at
  swept_stays (Fork block d first second) m history worker grant path (inl at) = inl (swept_stays first m (Took d ∷ after block history) worker grant path at)
  swept_stays (Fork block d first second) m history worker grant path (inr at) = inr (swept_stays second m (Refused d ∷ after block history) worker grant path at)

-- each step keeps the numbers of the leaves
module _ (pool : Pool) (numbers : AreNumbered pool) where
  -- a leaf gets another mark
  mark_numbered : (n : ℕ) (mark other : Mark) (path : List Event) (tree : PoolTree) → Replaced pool.tree [] n mark path (Leaf n other []) tree → AreNumbered (record pool { tree = tree })
  mark_numbered n mark other path tree at =
      let same : (m : ℕ) → leaves_with m tree ≡ leaves_with m pool.tree = λ m. (let e = replaced_numbers n mark path (Leaf n other []) m pool.tree [] tree at in omega (arith, e)) in
      record {
        different = λ m. omega (arith, same m, numbers.different m);
        fresh = λ m h. omega (arith, same m, numbers.fresh m h);
      }

  give_numbered : (word : ℕ) (piece : Piece) (new : Pool) → PoolGives pool word piece new → AreNumbered new
  give_numbered word piece new gives =
      let place = numbered pool.next piece.tree in
      let more : (m : ℕ) → leaves_with m gives.tree ≤ leaves_with m pool.tree + leaves_with m place =
      λ m. (let e = replaced_numbers piece.task.leaf (Out piece.task.worker piece.task.grant) piece.task.path place m pool.tree [] gives.tree gives.placed in omega (arith, e)) in
      subst AreNumbered (sym gives.left) (record {
        different = λ m. elim (cases_lt m pool.next) [
          | inl low ↦ omega (arith, more m, numbers.different m, numbered_before piece.tree pool.next m low)
          | inr high ↦ omega (arith, more m, numbers.fresh m high, numbered_once piece.tree pool.next m)
        ];
        fresh = λ m h. omega (arith, more m, numbers.fresh m (omega (arith, h)), numbered_behind piece.tree pool.next m h);
      })

  recall_numbered : AreNumbered (pool_recalled pool)
  recall_numbered = record {
    different = λ m. omega (arith, recalled_numbers pool.tree m, numbers.different m);
    fresh = λ m h. omega (arith, recalled_numbers pool.tree m, numbers.fresh m h);
  }

  sweep_numbered : (P : Network) (word : ℕ) → AreNumbered (pool_swept P pool word)
  sweep_numbered P word = record {
    different = λ m. omega (arith, swept_numbers P word pool.tree m [], numbers.different m);
    fresh = λ m h. omega (arith, swept_numbers P word pool.tree m [], numbers.fresh m h);
  }

  -- a step that does not change the tree
  view_numbered : (view : View) → AreNumbered (record pool { view = view })
  view_numbered view = record { different = numbers.different; fresh = numbers.fresh }

-- a row is noted, or nothing is done
by_tests : (P : Network) (pool : Pool) (Q : Pool → Type 0) (a b : Bool) (row : Row) → Q pool → Q (record pool { rows = pool.rows ++ row ∷ [] }) →
    Q (if a then (if b then pool else record pool { rows = pool.rows ++ row ∷ [] }) else pool)
by_tests P pool Q true true row same more = same
by_tests P pool Q true false row same more = more
by_tests P pool Q false b row same more = same

pub by_noted : (P : Network) (pool : Pool) (Q : Pool → Type 0) → Q pool → Q (record pool { rows = pool.rows ++ row_of P (tree_of pool.tree) pool.view.seen ∷ [] }) → Q (pool_noted P pool)
by_noted P pool Q same more =
    let row = row_of P (tree_of pool.tree) pool.view.seen in
    by_tests P pool Q (nat_lt (length pool.rows) 256) (is_last row pool.rows) row same more

pub keeps_numbered : KeepsNumbered
keeps_numbered P pool new word (Takes worker want task) numbers step =
    subst AreNumbered (sym step.left) (mark_numbered pool numbers task.leaf Free (Out worker task.grant) task.path step.tree step.marked)
keeps_numbered P pool new word (Gives piece) numbers step = give_numbered pool numbers word piece new step
keeps_numbered P pool new word (Returns task) numbers step =
    subst AreNumbered (sym step.left) (mark_numbered pool numbers task.leaf (Out task.worker task.grant) Free step.path step.tree step.freed)
keeps_numbered P pool new word Recalls numbers step = subst AreNumbered (sym step) (recall_numbered pool numbers)
keeps_numbered P pool new word Sweeps numbers step = subst AreNumbered (sym step) (sweep_numbered pool numbers P word)
keeps_numbered P pool new word Notes numbers step =
    subst AreNumbered (sym step) (by_noted P pool AreNumbered numbers (record { different = numbers.different; fresh = numbers.fresh }))
keeps_numbered P pool new word (Meets view) numbers step = subst AreNumbered (sym step) (view_numbered pool numbers _)

pub opens_numbered : (P : Network) (shares budget : ℕ) (tree : Tree) (best : Option (List ℕ)) → AreNumbered (opening_with P shares budget tree best)
opens_numbered P shares budget tree best = record {
  different = λ m. numbered_once tree 0 m;
  fresh = λ m h. numbered_behind tree 0 m (omega (arith, h));
}
