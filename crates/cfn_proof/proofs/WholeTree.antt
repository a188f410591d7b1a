-- The laws that lead from the nodes of a tree to the whole tree.
use Rattle.std.proofs.Common.{◌≡◌, ℕ, ◌<◌, ◌≤◌, List, [], ◌∷◌, ◌++◌, length, refl, sym, ap, ◌∙◌, subst, arith}
use Rattle.std.proofs.lemmas.List.{append-nil}
use Rattle.cfn_model.specs.declared.step.Decision.{Decision}
use Rattle.cfn_model.specs.declared.step.Event.{Event}
use Rattle.cfn_model.specs.declared.step.Event.TheVariants.{Took, Refused}
use Rattle.cfn_model.specs.Network.{Network}
use Rattle.cfn_model.specs.Sums.{floor}
use Rattle.cfn_model.specs.Steps.{after}
use Rattle.cfn_model.specs.Text.{IsSpelledTree}
use Rattle.cfn_model.proofs.CallerLemmas.{has_every_tree}
use Rattle.cfn_model.specs.Tree as trees
use Rattle.cfn_model.specs.Tree.{Valid, Strict, OpenBelow, bound, open_leaves}
use Rattle.cfn_proof.specs.declared.tree.NodeId.{NodeId}
use Rattle.cfn_proof.specs.declared.tree.End.{End}
use Rattle.cfn_proof.specs.declared.tree.End.TheVariants.{Free, Shut, Split}
use Rattle.cfn_proof.specs.declared.tree.Node.{Node}
use Rattle.cfn_proof.specs.Nodes.{node_at, tree_at, tree_of, with_children, IsSpelledEnd, IsTree, IsLinked, IsFree, Before, at_root, at_first, at_second}
use Rattle.cfn_proof.specs.Local.{ValidNode, StrictNode, ValidLaw, StrictLaw, OpenBelowLaw, BoundFromLaw, BoundAtLaw, ValidBehindLaw, StrictBehindLaw, OpenBelowBehindLaw, BoundFromBehindLaw, BoundAtBehindLaw, SpelledLaw, LinesLaw, NoneOpenLaw, SomeOpenLaw}
use Rattle.cfn_proof.proofs.TreeLemmas.{tree_at_is, from_last}
use Rattle.cfn_proof.proofs.Bases.{after_behind}
use Rattle.cfn_proof.proofs.Histories.{before_some}

-- a fact on trees behind a base that holds of leaves by the node alone, and of splits by the node and both subtrees
module _ (Q : List Event → trees.Tree → Type 0) (base : List Event) (nodes : List Node) (linked : IsLinked nodes) (at_free : (i : ℕ) (history : List Event) → i < length nodes → Before nodes i history → IsFree nodes i → Q (history ++ base) (trees.Open (node_at nodes i).block)) (at_shut : (i : ℕ) (history : List Event) → i < length nodes → Before nodes i history → (node_at nodes i).end ≡ Shut → Q (history ++ base) (trees.Closed (node_at nodes i).block)) (at_split : (i : ℕ) (history : List Event) (d : Decision) (first second : NodeId) → i < length nodes → Before nodes i history → (node_at nodes i).end ≡ Split d first second → Q (Took d ∷ after (node_at nodes i).block (history ++ base)) (tree_at nodes first.number) → Q (Refused d ∷ after (node_at nodes i).block (history ++ base)) (tree_at nodes second.number) → Q (history ++ base) (trees.Split (node_at nodes i).block d (tree_at nodes first.number) (tree_at nodes second.number))) where
  at_end : (i : ℕ) (history : List Event) (e : End) → i < length nodes → Before nodes i history → (node_at nodes i).end ≡ e → ((j : ℕ) → i < j → j < length nodes → (above : List Event) → Before nodes j above → Q (above ++ base) (tree_at nodes j)) → Q (history ++ base) (with_children (node_at nodes i).block e (tree_at nodes))
  at_end i history Free there before is later = at_free i history there before is
  at_end i history Shut there before is later = at_shut i history there before is
  at_end i history (Split d first second) there before is later =
      let family = linked.children i d first second there is in
      let e = after_behind (node_at nodes i).block history base in
      at_split i history d first second there before is
      (subst (λ h. Q (Took d ∷ h) (tree_at nodes first.number)) (sym e) (later first.number family.first_behind family.first_there _ (at_first i d first second history there is before refl refl)))
      (subst (λ h. Q (Refused d ∷ h) (tree_at nodes second.number)) (sym e) (later second.number family.second_behind family.second_there _ (at_second i d first second history there is before refl refl)))

  everywhere : (i : ℕ) → i < length nodes → (history : List Event) → Before nodes i history → Q (history ++ base) (tree_at nodes i)
  everywhere = from_last (length nodes) (λ i. (history : List Event) → Before nodes i history → Q (history ++ base) (tree_at nodes i))
      (λ i there later history before. subst (λ t. Q (history ++ base) t) (sym (tree_at_is nodes i linked there)) (at_end i history (node_at nodes i).end there before refl later))

  pub of_whole : Q base (tree_of nodes)
  of_whole = everywhere 0 linked.some [] (at_root refl refl)

pub valid_behind_law : ValidBehindLaw
valid_behind_law P base nodes k linked valid =
    of_whole (λ history tree. Valid P history tree k) base nodes linked
    (λ i history there before is. subst (λ e. ValidNode P (history ++ base) (node_at nodes i).block e k) is (valid.each i history there before))
    (λ i history there before is. subst (λ e. ValidNode P (history ++ base) (node_at nodes i).block e k) is (valid.each i history there before))
    (λ i history d first second there before is left right.
    let v = subst (λ e. ValidNode P (history ++ base) (node_at nodes i).block e k) is (valid.each i history there before) in (v.0, v.1, left, right))

pub strict_behind_law : StrictBehindLaw
strict_behind_law P base nodes linked strict =
    of_whole (λ history tree. Strict P history tree) base nodes linked
    (λ i history there before is. tt)
    (λ i history there before is. tt)
    (λ i history d first second there before is left right. (subst (λ e. StrictNode P (history ++ base) (node_at nodes i).block e) is (strict.each i history there before), left, right))

pub open_below_behind_law : OpenBelowBehindLaw
open_below_behind_law P base nodes k linked floors =
    of_whole (λ history tree. OpenBelow P history tree k) base nodes linked
    (λ i history there before is. floors.each i history there is before)
    (λ i history there before is. tt)
    (λ i history d first second there before is left right. (left, right))

pub bound_from_behind_law : BoundFromBehindLaw
bound_from_behind_law P base nodes low k linked below floors =
    of_whole (λ history tree. low ≤ bound P history tree k) base nodes linked
    (λ i history there before is. omega (arith, floors.each i history there is before))
    (λ i history there before is. below)
    (λ i history d first second there before is left right. omega (arith, left, right))

bound_at_open : (P : Network) (nodes : List Node) (k i : ℕ) (history : List Event) → IsLinked nodes → i < length nodes → IsFree nodes i → bound P history (tree_at nodes i) k ≤ floor P (after (node_at nodes i).block history)
bound_at_open P nodes k i history linked there free =
    let e : tree_at nodes i ≡ trees.Open (node_at nodes i).block = tree_at_is nodes i linked there ∙ ap (λ e. with_children (node_at nodes i).block e (tree_at nodes)) free in
    subst (λ t. bound P history t k ≤ floor P (after (node_at nodes i).block history)) (sym e) (omega arith)

-- a split's tree
tree_at_split : (nodes : List Node) (i : ℕ) (d : Decision) (first second : NodeId) → IsLinked nodes → i < length nodes → (node_at nodes i).end ≡ Split d first second → tree_at nodes i ≡ trees.Split (node_at nodes i).block d (tree_at nodes first.number) (tree_at nodes second.number)
tree_at_split nodes i d first second linked there is = tree_at_is nodes i linked there ∙ ap (λ e. with_children (node_at nodes i).block e (tree_at nodes)) is

-- the whole tree's bound is at most that of each subtree
bound_below : (P : Network) (base : List Event) (nodes : List Node) (k i : ℕ) (history : List Event) → IsLinked nodes → Before nodes i history → bound P base (tree_of nodes) k ≤ bound P (history ++ base) (tree_at nodes i) k
bound_below P base nodes k i history linked (at_root is_root is_empty) =
    subst (λ j. bound P base (tree_of nodes) k ≤ bound P (history ++ base) (tree_at nodes j) k) (sym is_root) (subst (λ h. bound P base (tree_of nodes) k ≤ bound P (h ++ base) (tree_of nodes) k) (sym is_empty) (omega arith))
bound_below P base nodes k i history linked (at_first parent d first second above there is before is_child is_history) =
    let block = (node_at nodes parent).block in
    let up = subst (λ t. bound P base (tree_of nodes) k ≤ bound P (above ++ base) t k) (tree_at_split nodes parent d first second linked there is) (bound_below P base nodes k parent above linked before) in
    let here : bound P base (tree_of nodes) k ≤ bound P (Took d ∷ after block (above ++ base)) (tree_at nodes first.number) k = omega (arith, up) in
    let down = subst (λ h. bound P base (tree_of nodes) k ≤ bound P (Took d ∷ h) (tree_at nodes first.number) k) (after_behind block above base) here in
    subst (λ j. bound P base (tree_of nodes) k ≤ bound P (history ++ base) (tree_at nodes j) k) (sym is_child) (subst (λ h. bound P base (tree_of nodes) k ≤ bound P (h ++ base) (tree_at nodes first.number) k) (sym is_history) down)
bound_below P base nodes k i history linked (at_second parent d first second above there is before is_child is_history) =
    let block = (node_at nodes parent).block in
    let up = subst (λ t. bound P base (tree_of nodes) k ≤ bound P (above ++ base) t k) (tree_at_split nodes parent d first second linked there is) (bound_below P base nodes k parent above linked before) in
    let here : bound P base (tree_of nodes) k ≤ bound P (Refused d ∷ after block (above ++ base)) (tree_at nodes second.number) k = omega (arith, up) in
    let down = subst (λ h. bound P base (tree_of nodes) k ≤ bound P (Refused d ∷ h) (tree_at nodes second.number) k) (after_behind block above base) here in
    subst (λ j. bound P base (tree_of nodes) k ≤ bound P (history ++ base) (tree_at nodes j) k) (sym is_child) (subst (λ h. bound P base (tree_of nodes) k ≤ bound P (h ++ base) (tree_at nodes second.number) k) (sym is_history) down)

pub bound_at_behind_law : BoundAtBehindLaw
bound_at_behind_law P base nodes k i history linked there free before =
    omega (arith, bound_below P base nodes k i history linked before, bound_at_open P nodes k i (history ++ base) linked there free)

-- the same behind the empty history
unbased : (Q : List Event → Type 0) (history : List Event) → Q history → Q (history ++ [])
unbased Q history holds = subst Q (sym (append-nil history)) holds

pub valid_law : ValidLaw
valid_law P nodes k linked valid =
    valid_behind_law P [] nodes k linked (record { each = λ i history there before. unbased (λ h. ValidNode P h (node_at nodes i).block (node_at nodes i).end k) history (valid.each i history there before) })

pub strict_law : StrictLaw
strict_law P nodes linked strict =
    strict_behind_law P [] nodes linked (record { each = λ i history there before. unbased (λ h. StrictNode P h (node_at nodes i).block (node_at nodes i).end) history (strict.each i history there before) })

pub open_below_law : OpenBelowLaw
open_below_law P nodes k linked floors =
    open_below_behind_law P [] nodes k linked (record { each = λ i history there free before. unbased (λ h. floor P (after (node_at nodes i).block h) < k) history (floors.each i history there free before) })

pub bound_from_law : BoundFromLaw
bound_from_law P nodes low k linked below floors =
    bound_from_behind_law P [] nodes low k linked below (record { each = λ i history there free before. unbased (λ h. low ≤ floor P (after (node_at nodes i).block h)) history (floors.each i history there free before) })

pub bound_at_law : BoundAtLaw
bound_at_law P nodes k i history linked there free before =
    subst (λ h. bound P [] (tree_of nodes) k ≤ floor P (after (node_at nodes i).block h)) (append-nil history) (bound_at_behind_law P [] nodes k i history linked there free before)

spelled_at : (nodes : List Node) (tree : IsTree nodes) (i : ℕ) (e : End) → i < length nodes → (node_at nodes i).end ≡ e → ((j : ℕ) → i < j → j < length nodes → IsSpelledTree (tree_at nodes j)) → IsSpelledTree (with_children (node_at nodes i).block e (tree_at nodes))
spelled_at nodes tree i Free there is later = tree.blocks i there
spelled_at nodes tree i Shut there is later = tree.blocks i there
spelled_at nodes tree i (Split d first second) there is later =
    let family = tree.linked.children i d first second there is in
    let e = subst (λ e. IsSpelledEnd e) is (tree.ends i there) in
    (tree.blocks i there, e, later first.number family.first_behind family.first_there, later second.number family.second_behind family.second_there)

pub spelled_law : SpelledLaw
spelled_law nodes tree =
    from_last (length nodes) (λ i. IsSpelledTree (tree_at nodes i)) (λ i there later. subst (λ t. IsSpelledTree t) (sym (tree_at_is nodes i tree.linked there)) (spelled_at nodes tree i (node_at nodes i).end there refl later)) 0 tree.linked.some

pub lines_law : LinesLaw
lines_law nodes = has_every_tree (tree_of nodes)

pub none_open_law : NoneOpenLaw
none_open_law nodes linked none =
    of_whole (λ history tree. open_leaves tree ≡ 0) [] nodes linked
    (λ i history there before is. absurd (none i there is))
    (λ i history there before is. refl)
    (λ i history d first second there before is left right. omega (arith, left, right))

-- the whole tree has at least the open leaves of each subtree
open_below : (nodes : List Node) (i : ℕ) (history : List Event) → IsLinked nodes → Before nodes i history → open_leaves (tree_at nodes i) ≤ open_leaves (tree_of nodes)
open_below nodes i history linked (at_root is_root is_empty) = subst (λ j. open_leaves (tree_at nodes j) ≤ open_leaves (tree_of nodes)) (sym is_root) (omega arith)
open_below nodes i history linked (at_first parent d first second above there is before is_child is_history) =
    let e = ap open_leaves (tree_at_split nodes parent d first second linked there is) in
    let up = open_below nodes parent above linked before in
    subst (λ j. open_leaves (tree_at nodes j) ≤ open_leaves (tree_of nodes)) (sym is_child) (omega (arith, e, up))
open_below nodes i history linked (at_second parent d first second above there is before is_child is_history) =
    let e = ap open_leaves (tree_at_split nodes parent d first second linked there is) in
    let up = open_below nodes parent above linked before in
    subst (λ j. open_leaves (tree_at nodes j) ≤ open_leaves (tree_of nodes)) (sym is_child) (omega (arith, e, up))

pub some_open_law : SomeOpenLaw
some_open_law nodes i linked there free =
    let before = before_some nodes i linked there in
    let e = ap open_leaves (tree_at_is nodes i linked there ∙ ap (λ e. with_children (node_at nodes i).block e (tree_at nodes)) free) in
    omega (arith, e, open_below nodes i before.0 linked before.1)
