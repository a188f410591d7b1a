-- Leaves that are out are freed, one after the other.
use Rattle.std.proofs.Common.{◌≡◌, ◌≢◌, ℕ, ◌+◌, ◌-◌, ◌≤◌, inl, inr, List, [], ◌∷◌, length, set, refl, sym, ap, ap₂, ◌∙◌, subst, arith, Option, Some, append-nil, IsPermutation}
use Rattle.std.proofs.lemmas.List.{length-set}
use Rattle.cfn_model.specs.declared.step.Event.{Event}
use Rattle.cfn_model.specs.declared.step.Event.TheVariants.{Took, Refused}
use Rattle.cfn_model.specs.Steps.{after}
use Rattle.cfn_queue.specs.Listing.{Listing}
use Rattle.cfn_proof.specs.Local.{BeforeOnceLaw}
use Rattle.cfn_machine.specs.Pool.{Free, Out, PoolTree, Leaf, Shut, Fork, IsLeaf, Replaced, granted, recalled, Task, View}
use Rattle.cfn_machine.specs.Steps.{PoolReturns, IsNotOut}
use Rattle.cfn_leaves.specs.declared.entry.Mark.{Mark as HeldMark}
use Rattle.cfn_leaves.specs.declared.entry.Mark.TheVariants as held
use Rattle.cfn_leaves.specs.declared.entry.Entry.{Entry}
use Rattle.cfn_leaves.specs.Standing.{entry_at, entry, marked, Are}
use Rattle.cfn_model.specs.Sums.{floor}
use Rattle.cfn_leaves.specs.Listed.{out_entry, out_mark}
use Rattle.cfn_leaves.specs.Value.{Holding, Body, IsBody, pool_of, pool_tree}
use Rattle.cfn_leaves.proofs.Trees.{marked_is, leaf_node}
use Rattle.cfn_leaves.proofs.Bodies.{is_held, out_is, body_freed}
use Rattle.cfn_leaves.proofs.HandingOut.{body_of}

-- a leaf's grant is one of those that are granted
pub out_granted : (tree : PoolTree) (history : List Event) (n worker grant : ℕ) (path : List Event) → IsLeaf tree history n (Out worker grant) path → grant ≤ granted tree
out_granted (Leaf number Free block) history n worker grant path at = absurd (let k : Free ≡ Out worker grant = at.1 in cc)
out_granted (Leaf number (Out w g) block) history n worker grant path at = let k : Out w g ≡ Out worker grant = at.1 in let e : g ≡ grant = cc in omega (arith, e)
out_granted (Shut block) history n worker grant path at = absurd at
out_granted (Fork block d first second) history n worker grant path (inl at) = omega (arith, out_granted first (Took d ∷ after block history) n worker grant path at)
out_granted (Fork block d first second) history n worker grant path (inr at) = omega (arith, out_granted second (Refused d ∷ after block history) n worker grant path at)

-- an entry of a leaf that is out
pub is_out : (e : Entry) → out_entry (Some e) ≡ 0 → e.mark ≡ held.Free
is_out e none = by_mark e.mark none where
  by_mark : (m : HeldMark) → out_mark m ≡ 0 → m ≡ held.Free
  by_mark held.Free h = refl
  by_mark (held.Out worker grant) h = absurd (omega (arith, h))

pub some_out : (mark : HeldMark) → mark ≢ held.Free → (worker : ℕ) × ((grant : ℕ) × (mark ≡ held.Out worker grant))
some_out held.Free other = absurd (other refl)
some_out (held.Out worker grant) other = (worker, (grant, refl))

-- one leaf is freed
pub record Freed (h new : Holding) (b : Body) (n worker grant : ℕ) : Type 0 where
  pub path : List Event
  pub replaced : Replaced (pool_tree h) [] n (Out worker grant) path (Leaf n Free []) (pool_tree new)
  pub body : IsBody h.network b (pool_tree new)
  pub few : grant ≤ granted (pool_tree h)
  pub len : length new.table ≡ length h.table

pub freed : (h : Holding) (listing left : Listing) (opened given n worker grant : ℕ) (e : Entry) (table : List (Option Entry)) → BeforeOnceLaw →
    IsBody h.network (body_of h listing opened given) (pool_tree h) → entry_at h.table n ≡ Some e → e.mark ≡ held.Out worker grant →
    IsPermutation (record { floor = e.floor; leaf = n } ∷ listing.leaves) left.leaves → listing.spare ≤ left.spare + 1 → table ≡ set h.table n (Some (record e { mark = held.Free })) →
    Freed h (record h { table = table }) (body_of (record h { table = table }) left opened (given - grant)) n worker grant
freed h listing left opened given n worker grant e table once body is out permuted room table_is =
    let P = h.network in
    let b = body_of h listing opened given in
    let tree = pool_tree h in
    let own = is_held P b tree n e once body is in
    let leaf : IsLeaf tree [] n (Out worker grant) own.path = subst (λ k. IsLeaf tree [] n k own.path) (out_is own.mark worker grant (sym out ∙ own.mark_is)) own.leaf in
    let l = body_freed P b tree n e own.path worker grant (record { floor = e.floor; leaf = n }) left once body leaf is out refl refl permuted room in
    let new_tree : marked h.tree table ≡ l.tree' = ap (marked h.tree) table_is ∙ marked_is P h.tree (set h.table n (Some (record e { mark = held.Free }))) l.tree' once l.body.are in
    record {
      path = own.path;
      replaced = subst (Replaced tree [] n (Out worker grant) own.path (Leaf n Free [])) (sym new_tree) l.replaced;
      body = subst (λ t. IsBody P (body_of (record h { table = table }) left opened (given - grant)) t) (sym new_tree)
          (subst (λ t. IsBody P (body_of (record h { table = t }) left opened (given - grant)) l.tree') (sym table_is) l.body);
      few = out_granted tree [] n worker grant own.path leaf;
      len = ap length table_is ∙ length-set h.table n (Some (record e { mark = held.Free }));
    }

-- so the task is given back
pub returned : (h : Holding) (table : List (Option Entry)) (b : Body) (task : Task) → Freed h (record h { table = table }) b task.leaf task.worker task.grant → (view : View) →
    PoolReturns (pool_of h view) task (pool_of (record h { table = table }) view)
returned h table b task freed view = record {
  path = freed.path;
  tree = marked h.tree table;
  freed = freed.replaced;
  left = ap (λ n. record { tree = marked h.tree table; next = n; budget = h.budget; begun = h.begun; nodes = h.nodes; rows = h.rows; view = view }) freed.len;
}

-- a leaf that has not this mark is not out so
pub not_out : (h : Holding) (b : Body) (task : Task) (view : View) → BeforeOnceLaw → b.nodes ≡ h.tree → b.table ≡ h.table → IsBody h.network b (pool_tree h) →
    ((e : Entry) → entry_at h.table task.leaf ≡ Some e → e.mark ≢ held.Out task.worker task.grant) → IsNotOut (pool_of h view) task
not_out h b task view once same_nodes same_table body other path leaf =
    let are = subst (λ t. Are h.network h.tree t (pool_tree h)) same_table (subst (λ n. Are h.network n b.table (pool_tree h)) same_nodes body.are) in
    let node = leaf_node h.network h.tree h.table (pool_tree h) once are task.leaf (Out task.worker task.grant) path leaf in
    other (entry node.node (Out task.worker task.grant) (floor h.network path)) node.is refl

-- the tree with its leaves called back stays where one is freed
pub recalled_same : (n worker grant : ℕ) (path : List Event) (tree : PoolTree) (history : List Event) (new : PoolTree) → Replaced tree history n (Out worker grant) path (Leaf n Free []) new → recalled new ≡ recalled tree
recalled_same n worker grant path (Leaf number mark block) history new at = ap recalled at.3 ∙ ap₂ (λ k b. Leaf k Free b) (sym at.0) (append-nil block)
recalled_same n worker grant path (Shut block) history new at = absurd at
recalled_same n worker grant path (Fork block d first second) history new (inl at) =
    ap recalled at.2 ∙ ap (λ t. Fork block d t (recalled second)) (recalled_same n worker grant path first (Took d ∷ after block history) at.0 at.1)
recalled_same n worker grant path (Fork block d first second) history new (inr at) =
    ap recalled at.2 ∙ ap (λ t. Fork block d (recalled first) t) (recalled_same n worker grant path second (Refused d ∷ after block history) at.0 at.1)

-- where no leaf is out, that is the tree
pub recalled_all : (tree : PoolTree) (history : List Event) → ((n worker grant : ℕ) (path : List Event) → IsLeaf tree history n (Out worker grant) path → ⊥) → recalled tree ≡ tree
recalled_all (Leaf number Free block) history none = refl
recalled_all (Leaf number (Out worker grant) block) history none = absurd (none number worker grant (after block history) (refl, refl, refl))
recalled_all (Shut block) history none = refl
recalled_all (Fork block d first second) history none =
    ap₂ (λ f s. Fork block d f s)
    (recalled_all first (Took d ∷ after block history) (λ n worker grant path at. none n worker grant path (inl at)))
    (recalled_all second (Refused d ∷ after block history) (λ n worker grant path at. none n worker grant path (inr at)))
