-- A leaf that is out, by its entry.
use Rattle.std.proofs.Common.{◌≡◌, ℕ, List, [], refl, sym, ap, ◌∙◌, subst, Some}
use Rattle.cfn_model.specs.declared.step.Event.{Event}
use Rattle.cfn_model.specs.Sums.{floor}
use Rattle.cfn_model.specs.Tree.{Tree}
use Rattle.cfn_proof.specs.Local.{BeforeOnceLaw}
use Rattle.cfn_machine.specs.Pool.{Out, IsLeaf, Task, View}
use Rattle.cfn_machine.specs.Steps.{PoolGives}
use Rattle.cfn_machine.proofs.CallerLemmas.{one_path}
use Rattle.cfn_leaves.specs.declared.entry.Mark.TheVariants as held
use Rattle.cfn_leaves.specs.declared.entry.Entry.{Entry}
use Rattle.cfn_leaves.specs.Standing.{entry_at, entry, Are}
use Rattle.cfn_leaves.specs.Ways.{IsPathOf}
use Rattle.cfn_leaves.specs.Given.{IsTaskEntry}
use Rattle.cfn_leaves.specs.Out.{IsOutTo, IsTaskOut, IsOutEntry, task_at, piece_at, PutsIn}
use Rattle.cfn_leaves.specs.Value.{Holding, Body, IsBody, pool_of, pool_tree}
use Rattle.cfn_leaves.proofs.Trees.{leaf_node, same_some}
use Rattle.cfn_leaves.proofs.Bodies.{is_held, out_is}
use Rattle.cfn_leaves.proofs.Gives.{task_leaf, task_entry}

-- a leaf that is out has an entry with its mark
pub out_there : (h : Holding) (leaf worker grant : ℕ) → BeforeOnceLaw → Are h.network h.tree h.table (pool_tree h) → IsOutTo h leaf worker grant → (e : Entry) × (entry_at h.table leaf ≡ Some e) × (e.mark ≡ held.Out worker grant)
out_there h leaf worker grant once are out =
    let node = leaf_node h.network h.tree h.table (pool_tree h) once are leaf (Out worker grant) out.0 out.1 in
    (entry node.node (Out worker grant) (floor h.network out.0), node.is, refl)

-- and an entry with such a mark is that of a leaf that is out
pub entry_out : (h : Holding) (b : Body) (leaf worker grant : ℕ) (e : Entry) → BeforeOnceLaw → b.table ≡ h.table → IsBody h.network b (pool_tree h) → entry_at h.table leaf ≡ Some e → e.mark ≡ held.Out worker grant → IsOutEntry h leaf worker grant e
entry_out h b leaf worker grant e once same_table body is mark =
    let at = is_held h.network b (pool_tree h) leaf e once body (ap (λ t. entry_at t leaf) same_table ∙ is) in
    record { is = is; mark = mark; out = (at.path, subst (λ k. IsLeaf (pool_tree h) [] leaf k at.path) (out_is at.mark worker grant (sym mark ∙ at.mark_is)) at.leaf) }

-- the task of such a leaf
pub record OwnTask (h : Holding) (leaf worker grant : ℕ) (e : Entry) : Type 0 where
  pub path : List Event
  pub low : e.floor ≡ floor h.network path
  pub entry : IsTaskEntry h (task_at leaf worker grant e.floor path) e

pub own_task : (h : Holding) (b : Body) (leaf worker grant : ℕ) (e : Entry) → BeforeOnceLaw → b.nodes ≡ h.tree → b.table ≡ h.table → IsBody h.network b (pool_tree h) → IsOutEntry h leaf worker grant e → OwnTask h leaf worker grant e
own_task h b leaf worker grant e once same_nodes same_table body own =
    let at = is_held h.network b (pool_tree h) leaf e once body (ap (λ t. entry_at t leaf) same_table ∙ own.is) in
    record { path = at.path; low = at.floor_is; entry = record { is = own.is; mark = own.mark; of = subst (λ n. IsPathOf n e.node.number at.path) same_nodes at.of } }

-- a tree that is put in is given as its piece, whichever path its leaf has
pub puts_in : (h new : Holding) (b : Body) (leaf worker grant : ℕ) (tree : Tree) (e : Entry) → BeforeOnceLaw → b.nodes ≡ h.tree → b.table ≡ h.table → IsBody h.network b (pool_tree h) → IsOutEntry h leaf worker grant e →
    (own : OwnTask h leaf worker grant e) → ((threshold : ℕ) (view : View) (word : ℕ) → PoolGives (pool_of h view) word (piece_at (task_at leaf worker grant e.floor own.path) tree threshold) (pool_of new (record view { seen = word }))) → PutsIn h leaf worker grant tree new
puts_in h new b leaf worker grant tree e once same_nodes same_table body entry own gives = record {
  out = entry.out;
  gives = λ path at floor threshold view word.
      let here = (task_leaf h b (task_at leaf worker grant e.floor own.path) e once same_nodes same_table body own.entry).leaf in
      let same : own.path ≡ path = (one_path leaf (Out worker grant) (Out worker grant) own.path path (pool_tree h) [] (body.are.different leaf) here at).1 in
      let g = gives threshold view word in
      subst (λ p. PoolGives (pool_of h view) word (piece_at (task_at leaf worker grant floor p) tree threshold) (pool_of new (record view { seen = word }))) same
      (record { tree = g.tree; placed = g.placed; left = g.left });
}

-- the leaf of a task is out where its entry has the path
module _ (h : Holding) (b : Body) (task : Task) (e : Entry) (once : BeforeOnceLaw) (same_nodes : b.nodes ≡ h.tree) (same_table : b.table ≡ h.table) (body : IsBody h.network b (pool_tree h)) (own : IsOutEntry h task.leaf task.worker task.grant e) where
  pub path_out : IsPathOf h.tree e.node.number task.path → IsTaskOut h task
  path_out of = (task_leaf h b task e once same_nodes same_table body (record { is = own.is; mark = own.mark; of = of })).leaf

  pub out_path : View → IsTaskOut h task → IsPathOf h.tree e.node.number task.path
  out_path view out =
      let are = subst (λ t. Are h.network h.tree t (pool_tree h)) same_table (subst (λ n. Are h.network n b.table (pool_tree h)) same_nodes body.are) in
      let at = task_entry h b task view once are out in
      subst (λ (x : Entry). IsPathOf h.tree x.node.number task.path) (same_some (sym at.1.is ∙ own.is)) at.1.of
