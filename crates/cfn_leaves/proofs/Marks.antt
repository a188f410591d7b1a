-- A leaf gets another mark, or is closed.
use Rattle.std.proofs.Common.{◌≡◌, ◌≢◌, ℕ, ◌+◌, ◌<◌, ◌≤◌, ◌⊎◌, inl, inr, List, [], ◌∷◌, length, set, refl, sym, ap, ◌∙◌, subst, arith, Option, Some, None, append-nil, if◌then◌else◌, ◌==◌}
use Rattle.std.proofs.lemmas.Bool.{cases_eq, cases_lt}
use Rattle.std.proofs.lemmas.List.{get_or_past, get_or-set_same, get_or-set_other}
use Rattle.cfn_model.specs.declared.step.Step.{Step}
use Rattle.cfn_model.specs.declared.step.Event.{Event}
use Rattle.cfn_model.specs.declared.step.Event.TheVariants.{Took, Refused}
use Rattle.cfn_model.specs.Network.{Network}
use Rattle.cfn_model.specs.Sums.{floor}
use Rattle.cfn_model.specs.Steps.{after}
use Rattle.cfn_model.specs.Tree.{open_leaves}
use Rattle.cfn_proof.specs.declared.tree.End.TheVariants as ends
use Rattle.cfn_proof.specs.declared.tree.Node.{Node}
use Rattle.cfn_proof.specs.Nodes.{node_at, IsLinked, close_at}
use Rattle.cfn_proof.specs.Local.{BeforeOnceLaw}
use Rattle.cfn_proof.proofs.CallerLemmas.{length-close_at, close_at-same, close_at-other}
use Rattle.cfn_machine.specs.Pool.{Mark, PoolTree, Leaf, Shut, Fork, IsLeaf, Replaced, behind, leaves_with, tree_of}
use Rattle.cfn_machine.proofs.CallerLemmas.{can_replace, replaced_in, replaced_stays, replaced_numbers}
use Rattle.cfn_leaves.specs.declared.entry.Entry.{Entry}
use Rattle.cfn_leaves.specs.Standing.{entry_at, held_mark, entry, Stands, HasLeaf, Are}
use Rattle.cfn_leaves.proofs.Trees.{leaf_node, apart, same_some, some_none, takes_place, Elsewhere}

pub entry_there : (table : List (Option Entry)) (n : ℕ) (e : Entry) → entry_at table n ≡ Some e → n < length table
entry_there table n e is = elim (cases_lt n (length table)) [ inl there ↦ there | inr far ↦ some_none (sym (get_or_past table n None far) ∙ is) ]

-- how many leaves are open where another tree takes the place of one
behind_opened : (block : List Step) (tree : PoolTree) → open_leaves (tree_of (behind block tree)) ≡ open_leaves (tree_of tree)
behind_opened block (Leaf n m more) = refl
behind_opened block (Shut more) = refl
behind_opened block (Fork more d first second) = refl

pub replaced_opened : (n : ℕ) (mark : Mark) (path : List Event) (place tree : PoolTree) (history : List Event) (new : PoolTree) → Replaced tree history n mark path place new →
    open_leaves (tree_of new) + 1 ≡ open_leaves (tree_of tree) + open_leaves (tree_of place)
replaced_opened n mark path place (Leaf number m block) history new at = rw at.3 (omega (arith, behind_opened block place))
replaced_opened n mark path place (Shut block) history new at = absurd at
replaced_opened n mark path place (Fork block d first second) history new (inl at) =
    let below = replaced_opened n mark path place first (Took d ∷ after block history) at.0 at.1 in rw at.2 (omega (arith, below))
replaced_opened n mark path place (Fork block d first second) history new (inr at) =
    let below = replaced_opened n mark path place second (Refused d ∷ after block history) at.0 at.1 in rw at.2 (omega (arith, below))

-- another tree has taken the place of a leaf, and the nodes and the table are the tree that comes of it
pub record Becomes (P : Network) (nodes : List Node) (table : List (Option Entry)) (tree : PoolTree) (n : ℕ) (mark : Mark) (path : List Event) (place : PoolTree) : Type 0 where
  pub tree' : PoolTree
  pub replaced : Replaced tree [] n mark path place tree'
  pub are : Are P nodes table tree'

module _ (P : Network) (nodes : List Node) (table : List (Option Entry)) (tree : PoolTree) (once : BeforeOnceLaw) (are : Are P nodes table tree) (n : ℕ) (mark : Mark) (path : List Event) (leaf : IsLeaf tree [] n mark path) where
  -- where it is a part of leaves that have their entries
  pub becomes : (new : List Node) (more : List (Option Entry)) (place : PoolTree) (e : Entry) → entry_at table n ≡ Some e → IsLinked new → Elsewhere nodes new table more e.node.number n →
      ((history : List Event) → path ≡ after (node_at nodes e.node.number).block history → Stands P new more e.node.number history (behind (node_at nodes e.node.number).block place)) →
      ((m : ℕ) → leaves_with m tree + leaves_with m place ≤ 1 + (if n == m then 1 else 0)) →
      ((m : ℕ) (f : Entry) → entry_at more m ≡ Some f → ((m ≢ n) × (entry_at table m ≡ Some f)) ⊎ ((k : Mark) × ((p : List Event) × IsLeaf place path m k p))) →
      Becomes P new more tree n mark path place
  becomes new more place e is linked elsewhere here few own =
      let replaced = can_replace place tree [] n mark path leaf in
      let tree' = replaced.0 in
      let there : (m : ℕ) (f : Entry) → entry_at more m ≡ Some f → HasLeaf tree' m = λ m f at. elim (own m f at) [
        | inr o ↦ (o.0, (o.1.0, replaced_in n mark path place m o.0 o.1.0 tree [] tree' replaced.1 o.1.1))
        | inl old ↦
            (let was = are.there m f old.1 in
            elim (replaced_stays n mark path place m was.0 was.1.0 tree [] tree' replaced.1 was.1.1) [ inl same ↦ absurd (old.0 same.0) | inr stays ↦ (was.0, (was.1.0, stays)) ])
      ] in
      record {
        tree' = tree';
        replaced = replaced.1;
        are = record {
          linked = linked;
          stands = takes_place P nodes new table more e.node.number n elsewhere mark path place e is refl here tree 0 [] tree' are.stands (are.different n) replaced.1;
          there = there;
          different = λ m. (let c = replaced_numbers n mark path place m tree [] tree' replaced.1 in let f = few m in omega (arith, c, f));
        };
      }

  pub away : (e : Entry) → entry_at table n ≡ Some e → (m : ℕ) (f : Entry) → m ≢ n → entry_at table m ≡ Some f → f.node.number ≢ e.node.number
  away e is m f other at same = other (apart P nodes table tree once are m n f e at is same)

  -- a leaf gets another mark
  pub remarked : (new : Mark) (e : Entry) → entry_at table n ≡ Some e → Becomes P nodes (set table n (Some (record e { mark = held_mark new }))) tree n mark path (Leaf n new [])
  remarked new e is =
      let node = leaf_node P nodes table tree once are n mark path leaf in
      let i = e.node.number in
      let e_is : e ≡ entry node.node mark (floor P path) = same_some (sym is ∙ node.is) in
      let at : node.node ≡ i = sym (ap (λ (e : Entry). e.node.number) e_is) in
      let there = entry_there table n e is in
      let more = set table n (Some (record e { mark = held_mark new })) in
      let set_is : entry_at more n ≡ Some (record e { mark = held_mark new }) = get_or-set_same table n _ None there in
      becomes nodes more (Leaf n new []) e is are.linked
      (record {
        no_fewer = omega arith;
        free = subst (λ i. (node_at nodes i).end ≡ ends.Free) at node.free;
        others = λ j h other. refl;
        entries = λ m f other was. get_or-set_other table n m _ None other ∙ was;
        away = away e is;
      })
      (λ history path_is. (
        subst (λ i. i < length nodes) at node.there,
        sym (append-nil (node_at nodes i).block),
        subst (λ i. (node_at nodes i).end ≡ ends.Free) at node.free,
        set_is ∙ ap (λ low. Some (entry i new low)) (ap (λ (e : Entry). e.floor) e_is ∙ ap (floor P) path_is ∙ ap (λ b. floor P (after b history)) (sym (append-nil (node_at nodes i).block))),
      ))
      (λ m. (let d = are.different m in omega (arith, d)))
      (λ m f at. elim (cases_eq m n) [ inl same ↦ inr (new, (path, (sym same, refl, refl))) | inr other ↦ inl (other, sym (get_or-set_other table n m _ None other) ∙ at) ])

  -- a leaf is closed
  pub closed : (e : Entry) → entry_at table n ≡ Some e → IsLinked (close_at nodes e.node.number (node_at nodes e.node.number).block) →
      Becomes P (close_at nodes e.node.number (node_at nodes e.node.number).block) (set table n None) tree n mark path (Shut [])
  closed e is linked =
      let node = leaf_node P nodes table tree once are n mark path leaf in
      let i = e.node.number in
      let e_is : e ≡ entry node.node mark (floor P path) = same_some (sym is ∙ node.is) in
      let at : node.node ≡ i = sym (ap (λ (e : Entry). e.node.number) e_is) in
      let within : i < length nodes = subst (λ i. i < length nodes) at node.there in
      let there = entry_there table n e is in
      let block = (node_at nodes i).block in
      let len = length-close_at nodes i block within in
      let same = close_at-same nodes i block within in
      let none : entry_at (set table n None) n ≡ None = get_or-set_same table n None None there in
      becomes (close_at nodes i block) (set table n None) (Shut []) e is linked
      (record {
        no_fewer = omega (arith, len);
        free = subst (λ i. (node_at nodes i).end ≡ ends.Free) at node.free;
        others = λ j h other. close_at-other nodes i block within j other;
        entries = λ m f other was. get_or-set_other table n m _ None other ∙ was;
        away = away e is;
      })
      (λ history path_is. (
        omega (arith, len, within),
        ap (λ (n : Node). n.block) same ∙ sym (append-nil block),
        ap (λ (n : Node). n.end) same,
      ))
      (λ m. (let d = are.different m in omega (arith, d)))
      (λ m f at. elim (cases_eq m n) [ inl same ↦ some_none (sym none ∙ sym (ap (entry_at (set table n None)) same) ∙ at) | inr other ↦ inl (other, sym (get_or-set_other table n m _ None other) ∙ at) ])
