-- The next leaf is handed out.
use Rattle.std.proofs.Common.{◌≡◌, ◌≢◌, ℕ, ◌+◌, ◌<◌, ◌≤◌, ◌⊎◌, inl, inr, List, [], ◌∷◌, length, min, set, refl, sym, ap, ◌∙◌, subst, arith, Option, Some, IsPermutation}
use Rattle.cfn_model.specs.declared.step.Event.{Event}
use Rattle.cfn_model.specs.Network.{Network}
use Rattle.cfn_model.specs.Sums.{floor}
use Rattle.cfn_queue.specs.declared.list.OpenLeaf.{OpenLeaf}
use Rattle.cfn_queue.specs.Listing.{Listing, IsLeast}
use Rattle.cfn_proof.specs.declared.tree.NodeId.{NodeId}
use Rattle.cfn_proof.specs.Local.{BeforeOnceLaw}
use Rattle.cfn_machine.specs.Pool.{Free, PoolTree, IsLeaf, IsTask, Task, View}
use Rattle.cfn_machine.specs.Steps.{PoolTakes, IsFirst, HasNone}
use Rattle.cfn_machine.proofs.CallerLemmas.{hands_out, one_path}
use Rattle.cfn_leaves.specs.declared.entry.Mark.TheVariants as held
use Rattle.cfn_leaves.specs.declared.entry.Entry.{Entry}
use Rattle.cfn_leaves.specs.declared.handing.Due.{Due}
use Rattle.cfn_leaves.specs.declared.handing.Lack.{Lack}
use Rattle.cfn_leaves.specs.declared.handing.Lack.TheVariants.{Empty, Spent, Again}
use Rattle.cfn_leaves.specs.Answers.{IsSoundPool, Takes, none_for}
use Rattle.cfn_leaves.specs.Handing.{IsNext, Lends, reason_of}
use Rattle.cfn_leaves.specs.Out.{task_at}
use Rattle.cfn_leaves.specs.Standing.{entry_at}
use Rattle.cfn_leaves.specs.Ways.{IsPathOf}
use Rattle.cfn_leaves.specs.Value.{Holding, Body, IsBody, pool_of, pool_tree}
use Rattle.cfn_leaves.proofs.Bodies.{path_once, first_held, is_held}
use Rattle.cfn_leaves.proofs.HandingOut.{body_of, handed}

-- two first leaves are one
abbrev pub Comes : Network → ℕ → List Event → ℕ → List Event → Type 0
Comes P n path m other = (floor P path < floor P other) ⊎ ((floor P path ≡ floor P other) × (n ≤ m))

both_first : (P : Network) (n m : ℕ) (path other : List Event) → Comes P n path m other → Comes P m other n path → n ≡ m
both_first P n m path other (inl h) (inl k) = absurd (omega arith)
both_first P n m path other (inl h) (inr k) = absurd (omega (arith, k.0))
both_first P n m path other (inr h) (inl k) = absurd (omega (arith, h.0))
both_first P n m path other (inr h) (inr k) = omega (arith, h.1, k.1)

one_first : (P : Network) (tree : PoolTree) (n m : ℕ) (path other : List Event) → IsFirst P tree n path → IsFirst P tree m other → n ≡ m
one_first P tree n m path other own also = both_first P n m path other (own.first m other also.leaf) (also.first n path own.leaf)

-- the least leaf of the list is the next one, with its node
pub next_is : (h : Holding) (b : Body) (first : OpenLeaf) (e : Entry) (due : Due) → BeforeOnceLaw → b.nodes ≡ h.tree → b.table ≡ h.table → IsBody h.network b (pool_tree h) → IsLeast b.listing.leaves first → entry_at h.table first.leaf ≡ Some e →
    due.leaf ≡ first → due.node ≡ e.node → due.left + (h.nodes + b.granted) ≡ h.budget → due.left ≢ 0 → h.nodes ≢ h.budget → IsNext h due
next_is h b first e due once same_nodes same_table body least is leaf_is node_is lefts some unspent =
    let at : entry_at b.table first.leaf ≡ Some e = ap (λ t. entry_at t first.leaf) same_table ∙ is in
    let own = first_held h.network b (pool_tree h) first e once body least at in
    let there = (is_held h.network b (pool_tree h) first.leaf e once body at).there in
    record {
      path = own.path;
      first = subst (λ (l : OpenLeaf). IsFirst h.network (pool_tree h) l.leaf own.path) (sym leaf_is) own.is;
      floor_is = ap (λ (l : OpenLeaf). l.floor) leaf_is ∙ own.floor_is;
      there = subst (λ n. due.node.number < length n) same_nodes (subst (λ (n : NodeId). n.number < length b.nodes) (sym node_is) there);
      of = subst (λ n. IsPathOf n due.node.number own.path) same_nodes (subst (λ (n : NodeId). IsPathOf b.nodes n.number own.path) (sym node_is) own.of);
      lefts = omega (arith, lefts, body.granted);
      some = some;
      unspent = unspent;
    }

-- it is out then
pub record LentOut (h new : Holding) (b : Body) (due : Due) (worker want : ℕ) : Type 0 where
  pub lends : Lends h due worker want new
  pub body : IsBody h.network b (pool_tree new)

pub lent : (h : Holding) (listing rest : Listing) (opened given : ℕ) (first : OpenLeaf) (e : Entry) (due : Due) (worker want grant : ℕ) (table : List (Option Entry)) → BeforeOnceLaw →
    IsBody h.network (body_of h listing opened given) (pool_tree h) → IsNext h due → IsLeast listing.leaves first → entry_at h.table first.leaf ≡ Some e → 1 ≤ want → grant ≡ min want due.left →
    IsPermutation listing.leaves (first ∷ rest.leaves) → rest.spare ≡ listing.spare + 1 → table ≡ set h.table first.leaf (Some (record e { mark = held.Out worker grant })) →
    LentOut h (record h { table = table }) (body_of (record h { table = table }) rest opened (given + grant)) due worker want
lent h listing rest opened given first e due worker want grant table once body next least is wants grant_is permuted room table_is =
    let P = h.network in
    let tree = pool_tree h in
    let own = first_held P (body_of h listing opened given) tree first e once body least is in
    let number : first.leaf ≡ due.leaf.leaf = one_first P tree first.leaf due.leaf.leaf own.path next.path own.is next.first in
    let here : IsLeaf tree [] due.leaf.leaf Free own.path = subst (λ n. IsLeaf tree [] n Free own.path) number own.is.leaf in
    let paths : own.path ≡ next.path = (one_path due.leaf.leaf Free Free own.path next.path tree [] (body.are.different due.leaf.leaf) here next.first.leaf).1 in
    let low : first.floor ≡ due.leaf.floor = own.floor_is ∙ ap (floor P) paths ∙ sym next.floor_is in
    let new : Holding = record h { table = table } in
    let step = handed h listing rest opened given first e own.path worker want due.left grant table once body least is own.of (omega (arith, next.lefts, body.granted)) next.some next.unspent wants grant_is permuted room table_is in
    record {
      lends = λ path of view.
          let same : own.path ≡ path = paths ∙ path_once h.tree due.node.number next.path path once body.are.linked next.of of in
          let T : ℕ → ℕ → ℕ → List Event → Type 0 = λ n g f p. PoolTakes P (pool_of h view) worker want (task_at n worker g f p) (pool_of new view) in
          subst (λ p. T due.leaf.leaf (min want due.left) due.leaf.floor p) same
          (subst (λ f. T due.leaf.leaf (min want due.left) f own.path) low
          (subst (λ g. T due.leaf.leaf g first.floor own.path) grant_is
          (subst (λ n. T n grant first.floor own.path) number (step.takes view))));
      body = step.body;
    }

-- the task that is handed out is one
pub lent_task : (h new : Holding) (worker want : ℕ) (task : Task) → IsSoundPool h → ((view : View) → PoolTakes h.network (pool_of h view) worker want task (pool_of new view)) → IsTask h.network task
lent_task h new worker want task sound takes = (hands_out h.network (pool_of h sound.0) (pool_of new sound.0) worker want task sound.1 (takes sound.0)).0

-- it is a task of its number, its worker and its grant
pub taken : (h new : Holding) (due : Due) (worker own want leaf grant : ℕ) (path : List Event) → Lends h due worker want new → IsPathOf h.tree due.node.number path → worker ≡ own → leaf ≡ due.leaf.leaf → grant ≡ min want due.left →
    (view : View) → PoolTakes h.network (pool_of h view) own want (task_at leaf own grant due.leaf.floor path) (pool_of new view)
taken h new due worker own want leaf grant path lends of same number grant_is view =
    let T : ℕ → ℕ → ℕ → Type 0 = λ w n g. PoolTakes h.network (pool_of h view) w want (task_at n w g due.leaf.floor path) (pool_of new view) in
    subst (λ w. T w leaf grant) same (subst (λ n. T worker n grant) (sym number) (subst (λ g. T worker due.leaf.leaf g) (sym grant_is) (lends path of view)))

-- where there is none, there is no task
pub none_taken : (h : Holding) (worker want : ℕ) (lack : Lack) → ((view : View) → HasNone (pool_of h view) (reason_of lack)) → Takes h worker want (none_for lack) h
none_taken h worker want Empty none = (refl, none)
none_taken h worker want Spent none = (refl, none)
none_taken h worker want Again none = (refl, none)
