-- Each step can be done or not, and leaves one pool where leaves have numbers of their own.
use Rattle.std.proofs.Common.{◌≡◌, ◌≢◌, ℕ, ◌+◌, ◌<◌, ◌≤◌, inl, inr, List, [], ◌∷◌, refl, sym, ap, ◌∙◌, subst, arith, Bool, true, false, if◌then◌else◌, ◌==◌, eq-eqb, eqb-true}
use Rattle.cfn_model.specs.declared.step.Step.{Step}
use Rattle.std.proofs.lemmas.Bool.{cases_lt, cases_eq}
use Rattle.cfn_model.specs.declared.step.Event.{Event}
use Rattle.cfn_model.specs.declared.step.Event.TheVariants.{Took, Refused}
use Rattle.cfn_model.specs.Network.{Network}
use Rattle.cfn_model.specs.Steps.{after}
use Rattle.cfn_model.specs.Tree.{count, open_leaves}
use Rattle.cfn_machine.specs.Pool.{Mark, Free, Out, PoolTree, Leaf, Shut, Fork, tree_of, IsLeaf, Replaced, granted, grant_of, numbered, active_mark, active_leaves, Task, Piece, Pool, leaves_with, AreNumbered}
use Rattle.cfn_machine.specs.Steps.{task_for, NoneOpen, AllSpent, AllOut, PoolGives, PoolReturns, Takes, Gives, Returns, Recalls, Sweeps, Meets}
use Rattle.cfn_machine.specs.Steps.{Notes}
use Rattle.cfn_machine.specs.Laws.{TakesOrNone, NeverBoth, OneLack, GivesOrNot, GivesOut, ReturnsOrNot, ReturnsOut, OneTask, OnePool}
use Rattle.cfn_machine.proofs.Deciding.{Precedes, find_some, find_this, can_replace, find_first}
use Rattle.cfn_machine.proofs.Numbering.{leaf_counts, replaced_leaf}

-- one leaf has a number, and one tree comes of it where another takes its place
pub one_path : (n : ℕ) (mark other_mark : Mark) (path other : List Event) (tree : PoolTree) (history : List Event) → leaves_with n tree ≤ 1 →
    IsLeaf tree history n mark path → IsLeaf tree history n other_mark other → (mark ≡ other_mark) × (path ≡ other)
one_path n mark other_mark path other (Leaf number m block) history one at here = (sym at.1 ∙ here.1, at.2 ∙ sym here.2)
one_path n mark other_mark path other (Shut block) history one at here = absurd at
one_path n mark other_mark path other (Fork block d first second) history one (inl at) (inl here) = one_path n mark other_mark path other first (Took d ∷ after block history) (omega (arith, one)) at here
one_path n mark other_mark path other (Fork block d first second) history one (inr at) (inr here) = one_path n mark other_mark path other second (Refused d ∷ after block history) (omega (arith, one)) at here
one_path n mark other_mark path other (Fork block d first second) history one (inl at) (inr here) =
    absurd (let c = leaf_counts first (Took d ∷ after block history) n mark path at in let d = leaf_counts second (Refused d ∷ after block history) n other_mark other here in omega (arith, one, c, d))
one_path n mark other_mark path other (Fork block d first second) history one (inr at) (inl here) =
    absurd (let c = leaf_counts second (Refused d ∷ after block history) n mark path at in let d = leaf_counts first (Took d ∷ after block history) n other_mark other here in omega (arith, one, c, d))

pub one_tree : (n : ℕ) (mark : Mark) (path : List Event) (place : PoolTree) (tree : PoolTree) (history : List Event) (new other : PoolTree) → leaves_with n tree ≤ 1 →
    Replaced tree history n mark path place new → Replaced tree history n mark path place other → new ≡ other
one_tree n mark path place (Leaf number m block) history new other one at here = at.3 ∙ sym here.3
one_tree n mark path place (Shut block) history new other one at here = absurd at
one_tree n mark path place (Fork block d first second) history new other one (inl at) (inl here) =
    at.2 ∙ ap (λ t. Fork block d t second) (one_tree n mark path place first (Took d ∷ after block history) at.0 here.0 (omega (arith, one)) at.1 here.1) ∙ sym here.2
one_tree n mark path place (Fork block d first second) history new other one (inr at) (inr here) =
    at.2 ∙ ap (λ t. Fork block d first t) (one_tree n mark path place second (Refused d ∷ after block history) at.0 here.0 (omega (arith, one)) at.1 here.1) ∙ sym here.2
one_tree n mark path place (Fork block d first second) history new other one (inl at) (inr here) =
    absurd (let c = leaf_counts first (Took d ∷ after block history) n mark path (replaced_leaf n mark path place first (Took d ∷ after block history) at.0 at.1) in
    let d = leaf_counts second (Refused d ∷ after block history) n mark path (replaced_leaf n mark path place second (Refused d ∷ after block history) here.0 here.1) in omega (arith, one, c, d))
one_tree n mark path place (Fork block d first second) history new other one (inr at) (inl here) =
    absurd (let c = leaf_counts second (Refused d ∷ after block history) n mark path (replaced_leaf n mark path place second (Refused d ∷ after block history) at.0 at.1) in
    let d = leaf_counts first (Took d ∷ after block history) n mark path (replaced_leaf n mark path place first (Took d ∷ after block history) here.0 here.1) in omega (arith, one, c, d))

pub leaf_open : (tree : PoolTree) (history : List Event) (n : ℕ) (mark : Mark) (path : List Event) → IsLeaf tree history n mark path → 0 < open_leaves (tree_of tree)
leaf_open (Leaf number m block) history n mark path at = omega arith
leaf_open (Shut block) history n mark path at = absurd at
leaf_open (Fork block d first second) history n mark path (inl at) = omega (arith, leaf_open first (Took d ∷ after block history) n mark path at)
leaf_open (Fork block d first second) history n mark path (inr at) = omega (arith, leaf_open second (Refused d ∷ after block history) n mark path at)

pub free_active : (tree : PoolTree) (history : List Event) (n : ℕ) (path : List Event) → IsLeaf tree history n Free path → 0 < active_leaves tree
free_active (Leaf number m block) history n path at = (let e = ap active_mark at.1 in omega (arith, e))
free_active (Shut block) history n path at = absurd at
free_active (Fork block d first second) history n path (inl at) = omega (arith, free_active first (Took d ∷ after block history) n path at)
free_active (Fork block d first second) history n path (inr at) = omega (arith, free_active second (Refused d ∷ after block history) n path at)

-- where nodes may be made below a leaf that is out, a leaf is active; where none may and no leaf is free, none is
granted_mark : (mark : Mark) → grant_of mark ≢ 0 → 0 < active_mark mark
granted_mark Free some = absurd (some refl)
granted_mark (Out worker grant) some = by_grant (grant == 0) refl where
  by_grant : (t : Bool) → (grant == 0) ≡ t → 0 < (if t then 0 else 1)
  by_grant true none = absurd (some (eqb-true grant 0 none))
  by_grant false other = omega arith

pub granted_active : (tree : PoolTree) → granted tree ≢ 0 → 0 < active_leaves tree
granted_active (Leaf number mark block) some = granted_mark mark some
granted_active (Shut block) some = absurd (some refl)
granted_active (Fork block d first second) some = elim (cases_eq (granted first) 0) [
  | inl none ↦ (let more = granted_active second (λ also. some (omega (arith, none, also))) in omega (arith, more))
  | inr other ↦ (let more = granted_active first other in omega (arith, more))
]

ungranted_mark : (number : ℕ) (mark : Mark) (block : List Step) (history : List Event) → ((n : ℕ) (path : List Event) → IsLeaf (Leaf number mark block) history n Free path → ⊥) → grant_of mark ≡ 0 → active_mark mark ≡ 0
ungranted_mark number Free block history none nothing = absurd (none number (after block history) (refl, refl, refl))
ungranted_mark number (Out worker grant) block history none nothing = let e : (grant == 0) ≡ true = eq-eqb grant 0 nothing in rw e refl

pub none_active : (tree : PoolTree) (history : List Event) → ((n : ℕ) (path : List Event) → IsLeaf tree history n Free path → ⊥) → granted tree ≡ 0 → active_leaves tree ≡ 0
none_active (Leaf number mark block) history none nothing = ungranted_mark number mark block history none nothing
none_active (Shut block) history none nothing = refl
none_active (Fork block d first second) history none nothing =
    let one = none_active first (Took d ∷ after block history) (λ n path at. none n path (inl at)) (omega (arith, nothing)) in
    let two = none_active second (Refused d ∷ after block history) (λ n path at. none n path (inr at)) (omega (arith, nothing)) in
    omega (arith, one, two)

-- a leaf is taken, or there is none to take
pub takes_or_none : TakesOrNone
takes_or_none P pool worker want wants = elim (cases_lt 0 (active_leaves pool.tree)) [
  | inr none ↦ inr (NoneOpen, omega arith)
  | inl some ↦ elim (cases_eq pool.nodes pool.budget) [
    | inl spent ↦ inr (AllSpent, (some, spent))
    | inr unspent ↦ elim (cases_eq (pool.nodes + granted pool.tree) pool.budget) [
      | inl all_granted ↦ inr (AllOut, (some, unspent, inr all_granted))
      | inr room ↦ elim (find_first P pool.tree []) [
        | inr none_free ↦ inr (AllOut, (some, unspent, inl none_free))
        | inl found ↦
            (let task = task_for P pool worker want found.0 found.1 in
            let r = can_replace (Leaf found.0 (Out worker task.grant) []) pool.tree [] found.0 Free found.1 found.2.leaf in
            inl (
              task,
              record pool { tree = r.0 },
              record {
                wants = wants;
                unspent = unspent;
                room = room;
                first = record { leaf = found.2.leaf; first = found.2.first };
                handed = refl;
                tree = r.0;
                marked = r.1;
                left = refl;
              },
            ))
      ]
    ]
  ]
]

pub never_both : NeverBoth
never_both P pool new worker want task NoneOpen takes none = (let o = free_active pool.tree [] task.leaf task.path takes.first.leaf in omega (arith, o, none))
never_both P pool new worker want task AllSpent takes none = takes.unspent none.1
never_both P pool new worker want task AllOut takes (some, unspent, inl out) = out task.leaf task.path takes.first.leaf
never_both P pool new worker want task AllOut takes (some, unspent, inr all_granted) = takes.room all_granted

pub one_lack : OneLack
one_lack pool NoneOpen NoneOpen a b = refl
one_lack pool NoneOpen AllSpent a b = absurd (omega (arith, a, b.0))
one_lack pool NoneOpen AllOut a b = absurd (omega (arith, a, b.0))
one_lack pool AllSpent NoneOpen a b = absurd (omega (arith, a.0, b))
one_lack pool AllSpent AllSpent a b = refl
one_lack pool AllSpent AllOut a b = absurd (b.1 a.1)
one_lack pool AllOut NoneOpen a b = absurd (omega (arith, a.0, b))
one_lack pool AllOut AllSpent a b = absurd (a.1 b.1)
one_lack pool AllOut AllOut a b = refl

-- a piece is given, and a task is given back
pub gives_or_not : GivesOrNot
gives_or_not pool word piece = elim (find_this pool.tree [] piece.task.leaf (Out piece.task.worker piece.task.grant) piece.task.path) [
  | inr gone ↦ inr gone
  | inl out ↦
      (let r = can_replace (numbered pool.next piece.tree) pool.tree [] piece.task.leaf (Out piece.task.worker piece.task.grant) piece.task.path out in
      inl (
        record pool { tree = r.0; next = pool.next + open_leaves piece.tree; nodes = pool.nodes + count piece.tree; view = record pool.view { seen = word } },
        record { tree = r.0; placed = r.1; left = refl },
      ))
]

pub gives_out : GivesOut
gives_out pool new word piece gives =
    replaced_leaf piece.task.leaf (Out piece.task.worker piece.task.grant) piece.task.path (numbered pool.next piece.tree) pool.tree [] gives.tree gives.placed

pub returns_or_not : ReturnsOrNot
returns_or_not pool task = elim (find_some pool.tree [] task.leaf (Out task.worker task.grant)) [
  | inr never ↦ inr never
  | inl out ↦
      (let r = can_replace (Leaf task.leaf Free []) pool.tree [] task.leaf (Out task.worker task.grant) out.0 out.1 in
      inl (record pool { tree = r.0 }, record { path = out.0; tree = r.0; freed = r.1; left = refl }))
]

pub returns_out : ReturnsOut
returns_out pool new task returns never =
    never returns.path (replaced_leaf task.leaf (Out task.worker task.grant) returns.path (Leaf task.leaf Free []) pool.tree [] returns.tree returns.freed)

-- one task is handed out
both_first : (P : Network) (n m : ℕ) (path other : List Event) → Precedes P n path m other → Precedes P m other n path → n ≡ m
both_first P n m path other (inl h) (inl k) = absurd (omega arith)
both_first P n m path other (inl h) (inr k) = absurd (omega (arith, k.0))
both_first P n m path other (inr h) (inl k) = absurd (omega (arith, h.0))
both_first P n m path other (inr h) (inr k) = omega (arith, h.1, k.1)

pub one_task : OneTask
one_task P pool new another worker want task other own a b =
    let numbers : other.leaf ≡ task.leaf = both_first P other.leaf task.leaf other.path task.path (b.first.first task.leaf task.path a.first.leaf) (a.first.first other.leaf other.path b.first.leaf) in
    let leaf : IsLeaf pool.tree [] task.leaf Free other.path = subst (λ x. IsLeaf pool.tree [] x Free other.path) numbers b.first.leaf in
    let paths : other.path ≡ task.path = (one_path task.leaf Free Free other.path task.path pool.tree [] (own.different task.leaf) leaf a.first.leaf).1 in
    let tasks : other ≡ task = b.handed ∙ ap (λ x. task_for P pool worker want x other.path) numbers ∙ ap (task_for P pool worker want task.leaf) paths ∙ sym a.handed in
    let moved : Replaced pool.tree [] task.leaf Free task.path (Leaf task.leaf (Out worker task.grant) []) b.tree =
    subst (λ (t : Task). Replaced pool.tree [] t.leaf Free t.path (Leaf t.leaf (Out worker t.grant) []) b.tree) tasks b.marked in
    let trees : b.tree ≡ a.tree = one_tree task.leaf Free task.path (Leaf task.leaf (Out worker task.grant) []) pool.tree [] b.tree a.tree (own.different task.leaf) moved a.marked in
    (sym tasks, a.left ∙ ap (λ t. record pool { tree = t }) (sym trees) ∙ sym b.left)

one_given : (pool new another : Pool) (word : ℕ) (piece : Piece) → AreNumbered pool → PoolGives pool word piece new → PoolGives pool word piece another → new ≡ another
one_given pool new another word piece own a b =
    let trees = one_tree piece.task.leaf (Out piece.task.worker piece.task.grant) piece.task.path (numbered pool.next piece.tree) pool.tree [] a.tree b.tree (own.different piece.task.leaf) a.placed b.placed in
    a.left ∙ ap (λ t. record pool { tree = t; next = pool.next + open_leaves piece.tree; nodes = pool.nodes + count piece.tree; view = record pool.view { seen = word } }) trees ∙ sym b.left

one_returned : (pool new another : Pool) (task : Task) → AreNumbered pool → PoolReturns pool task new → PoolReturns pool task another → new ≡ another
one_returned pool new another task own a b =
    let mark = Out task.worker task.grant in
    let paths : b.path ≡ a.path = (one_path task.leaf mark mark b.path a.path pool.tree [] (own.different task.leaf)
    (replaced_leaf task.leaf mark b.path (Leaf task.leaf Free []) pool.tree [] b.tree b.freed) (replaced_leaf task.leaf mark a.path (Leaf task.leaf Free []) pool.tree [] a.tree a.freed)).1 in
    let trees = one_tree task.leaf mark a.path (Leaf task.leaf Free []) pool.tree [] a.tree b.tree (own.different task.leaf) a.freed
    (subst (λ p. Replaced pool.tree [] task.leaf mark p (Leaf task.leaf Free []) b.tree) paths b.freed) in
    a.left ∙ ap (λ t. record pool { tree = t }) trees ∙ sym b.left

pub one_pool : OnePool
one_pool P pool new another word (Takes worker want task) own a b = (one_task P pool new another worker want task task own a b).1
one_pool P pool new another word (Gives piece) own a b = one_given pool new another word piece own a b
one_pool P pool new another word (Returns task) own a b = one_returned pool new another task own a b
one_pool P pool new another word Recalls own a b = a ∙ sym b
one_pool P pool new another word Sweeps own a b = a ∙ sym b
one_pool P pool new another word (Meets view) own a b = a ∙ sym b
one_pool P pool new another word Notes own a b = a ∙ sym b
