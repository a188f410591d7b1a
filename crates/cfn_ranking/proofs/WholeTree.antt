-- The laws that lead from the nodes of a tree to the whole tree with listed leaves.
use Rattle.std.proofs.Common.{◌≡◌, ℕ, ◌+◌, ◌<◌, ◌≤◌, List, [], ◌∷◌, ◌++◌, length, map, refl, sym, ap, ◌∙◌, subst, arith}
use Rattle.std.specs.Prelude.{Option, Some, None}
use Rattle.std.specs.List.{AllByRecursion}
use Rattle.cfn_model.specs.declared.step.Step.{Step}
use Rattle.cfn_model.specs.declared.step.Decision.{Decision}
use Rattle.cfn_model.specs.declared.step.Event.{Event}
use Rattle.cfn_model.specs.declared.step.Event.TheVariants.{Took, Refused}
use Rattle.cfn_model.specs.Network.{Network}
use Rattle.cfn_model.specs.Steps.{after}
use Rattle.cfn_model.specs.Text.{IsSpelledStep}
use Rattle.cfn_model.specs.Tree as trees
use Rattle.cfn_model.specs.Words.{greatest}
use Rattle.cfn_fault.specs.Nodes.{Makes, LeavesOpen, Closes}
use Rattle.cfn_fault.specs.Lines as lines
use Rattle.cfn_proof.specs.declared.tree.NodeId.{NodeId}
use Rattle.cfn_proof.specs.declared.tree.End.{End}
use Rattle.cfn_proof.specs.declared.tree.End.TheVariants.{Free, Shut, Split}
use Rattle.cfn_proof.specs.declared.tree.Node.{Node}
use Rattle.cfn_proof.specs.Nodes.{node_at, tree_at, with_children, IsSpelledEnd, IsTree, IsLinked, IsFree, Before, at_root, at_first, at_second}
use Rattle.cfn_proof.specs.Local.{ValidNode}
use Rattle.cfn_proof.proofs.CallerLemmas.{before_some, tree_at_is}
use Rattle.cfn_best.specs.Tree as lists
use Rattle.cfn_best.specs.Tree.{ListTree, IsValid, bound}
use Rattle.cfn_best.specs.Lines.{ListLine, Lists, Says, IsSpelledLine, lines_of_tree}
use Rattle.cfn_ranking.specs.Trees.{NumbersAreThere, leaf_of, with_listed, number_at, listed_at, listed_of, plain, open_leaves, OpenBelow}
use Rattle.cfn_ranking.specs.Laws.{NumbersLaw, PlainLaw, ValidLaw, BoundFromLaw, BoundAtLaw, BoundMostLaw, OpenBelowLaw, NoneOpenLaw, SomeOpenLaw, SpelledLaw}
use Rattle.cfn_ranking.proofs.TreeLemmas.{listed_at_is, from_last}

-- a fact on trees that holds of leaves by the node and its number alone, and of splits by the node and both subtrees
module _ (Q : List Event → ListTree → Type 0) (nodes : List Node) (numbers : List (Option ℕ)) (linked : IsLinked nodes) (at_open : (i : ℕ) (history : List Event) → i < length nodes → Before nodes i history → IsFree nodes i → number_at numbers i ≡ None → Q history (lists.Open (node_at nodes i).block)) (at_listed : (i j : ℕ) (history : List Event) → i < length nodes → Before nodes i history → IsFree nodes i → number_at numbers i ≡ Some j → Q history (lists.Listed (node_at nodes i).block j)) (at_shut : (i : ℕ) (history : List Event) → i < length nodes → Before nodes i history → (node_at nodes i).end ≡ Shut → Q history (lists.Closed (node_at nodes i).block)) (at_split : (i : ℕ) (history : List Event) (d : Decision) (first second : NodeId) → i < length nodes → Before nodes i history → (node_at nodes i).end ≡ Split d first second → Q (Took d ∷ after (node_at nodes i).block history) (listed_at nodes numbers first.number) → Q (Refused d ∷ after (node_at nodes i).block history) (listed_at nodes numbers second.number) → Q history (lists.Split (node_at nodes i).block d (listed_at nodes numbers first.number) (listed_at nodes numbers second.number))) where
  at_leaf : (i : ℕ) (history : List Event) (number : Option ℕ) → i < length nodes → Before nodes i history → IsFree nodes i → number_at numbers i ≡ number → Q history (leaf_of (node_at nodes i).block number)
  at_leaf i history None there before free is = at_open i history there before free is
  at_leaf i history (Some j) there before free is = at_listed i j history there before free is

  at_end : (i : ℕ) (history : List Event) (e : End) → i < length nodes → Before nodes i history → (node_at nodes i).end ≡ e → ((j : ℕ) → i < j → j < length nodes → (above : List Event) → Before nodes j above → Q above (listed_at nodes numbers j)) → Q history (with_listed (node_at nodes i).block e (number_at numbers i) (listed_at nodes numbers))
  at_end i history Free there before is later = at_leaf i history (number_at numbers i) there before is refl
  at_end i history Shut there before is later = at_shut i history there before is
  at_end i history (Split d first second) there before is later =
      let family = linked.children i d first second there is in
      at_split i history d first second there before is
      (later first.number family.first_behind family.first_there _ (at_first i d first second history there is before refl refl))
      (later second.number family.second_behind family.second_there _ (at_second i d first second history there is before refl refl))

  everywhere : (i : ℕ) → i < length nodes → (history : List Event) → Before nodes i history → Q history (listed_at nodes numbers i)
  everywhere = from_last (length nodes) (λ i. (history : List Event) → Before nodes i history → Q history (listed_at nodes numbers i))
      (λ i there later history before. subst (λ t. Q history t) (sym (listed_at_is nodes numbers i linked there)) (at_end i history (node_at nodes i).end there before refl later))

  pub of_whole : Q [] (listed_of nodes numbers)
  of_whole = everywhere 0 linked.some [] (at_root refl refl)

-- each listed leaf taken for an open one
plain_leaf : (block : List Step) (number : Option ℕ) → plain (leaf_of block number) ≡ trees.Open block
plain_leaf block None = refl
plain_leaf block (Some j) = refl

plain_end : (nodes : List Node) (numbers : List (Option ℕ)) (i : ℕ) (e : End) → IsLinked nodes → i < length nodes → (node_at nodes i).end ≡ e → ((j : ℕ) → i < j → j < length nodes → plain (listed_at nodes numbers j) ≡ tree_at nodes j) → plain (with_listed (node_at nodes i).block e (number_at numbers i) (listed_at nodes numbers)) ≡ with_children (node_at nodes i).block e (tree_at nodes)
plain_end nodes numbers i Free linked there is later = plain_leaf (node_at nodes i).block (number_at numbers i)
plain_end nodes numbers i Shut linked there is later = refl
plain_end nodes numbers i (Split d first second) linked there is later =
    let family = linked.children i d first second there is in
    ap (λ t. trees.Split (node_at nodes i).block d t (plain (listed_at nodes numbers second.number))) (later first.number family.first_behind family.first_there)
    ∙ ap (λ t. trees.Split (node_at nodes i).block d (tree_at nodes first.number) t) (later second.number family.second_behind family.second_there)

pub plain_law : PlainLaw
plain_law nodes numbers linked =
    from_last (length nodes) (λ i. plain (listed_at nodes numbers i) ≡ tree_at nodes i)
    (λ i there later. ap plain (listed_at_is nodes numbers i linked there) ∙ plain_end nodes numbers i (node_at nodes i).end linked there refl later ∙ sym (tree_at_is nodes i linked there))
    0 linked.some

pub valid_law : ValidLaw
valid_law P list nodes numbers k linked valid listed =
    of_whole (λ history tree. IsValid P list history tree k) nodes numbers linked
    (λ i history there before is none. subst (λ e. ValidNode P history (node_at nodes i).block e k) is (valid.each i history there before))
    (λ i j history there before is some. (subst (λ e. ValidNode P history (node_at nodes i).block e k) is (valid.each i history there before), listed i j history there is some before))
    (λ i history there before is. subst (λ e. ValidNode P history (node_at nodes i).block e k) is (valid.each i history there before))
    (λ i history d first second there before is left right.
    let v = subst (λ e. ValidNode P history (node_at nodes i).block e k) is (valid.each i history there before) in (v.0, v.1, left, right))

pub open_below_law : OpenBelowLaw
open_below_law P nodes numbers k linked floors =
    of_whole (λ history tree. OpenBelow P history tree k) nodes numbers linked
    (λ i history there before is none. floors i history there is none before)
    (λ i j history there before is some. tt)
    (λ i history there before is. tt)
    (λ i history d first second there before is left right. (left, right))

pub bound_from_law : BoundFromLaw
bound_from_law P nodes numbers low k linked below floors =
    of_whole (λ history tree. low ≤ bound P history tree k) nodes numbers linked
    (λ i history there before is none. omega (arith, below, floors i history there is none before))
    (λ i j history there before is some. below)
    (λ i history there before is. below)
    (λ i history d first second there before is left right. omega (arith, left, right))

-- the bound is at most the threshold
pub bound_most : BoundMostLaw
bound_most P history (lists.Open block) k = omega arith
bound_most P history (lists.Closed block) k = omega arith
bound_most P history (lists.Listed block j) k = omega arith
bound_most P history (lists.Split block d first second) k = omega (arith, bound_most P (Took d ∷ after block history) first k)

-- the tree of an open leaf without a number, and of a split
listed_at_open : (nodes : List Node) (numbers : List (Option ℕ)) (i : ℕ) → IsLinked nodes → i < length nodes → IsFree nodes i → number_at numbers i ≡ None → listed_at nodes numbers i ≡ lists.Open (node_at nodes i).block
listed_at_open nodes numbers i linked there free none =
    listed_at_is nodes numbers i linked there
    ∙ ap (λ e. with_listed (node_at nodes i).block e (number_at numbers i) (listed_at nodes numbers)) free
    ∙ ap (λ n. leaf_of (node_at nodes i).block n) none

listed_at_split : (nodes : List Node) (numbers : List (Option ℕ)) (i : ℕ) (d : Decision) (first second : NodeId) → IsLinked nodes → i < length nodes → (node_at nodes i).end ≡ Split d first second → listed_at nodes numbers i ≡ lists.Split (node_at nodes i).block d (listed_at nodes numbers first.number) (listed_at nodes numbers second.number)
listed_at_split nodes numbers i d first second linked there is =
    listed_at_is nodes numbers i linked there ∙ ap (λ e. with_listed (node_at nodes i).block e (number_at numbers i) (listed_at nodes numbers)) is

-- the whole tree's bound is at most that of each subtree
bound_below : (P : Network) (nodes : List Node) (numbers : List (Option ℕ)) (k i : ℕ) (history : List Event) → IsLinked nodes → Before nodes i history → bound P [] (listed_of nodes numbers) k ≤ bound P history (listed_at nodes numbers i) k
bound_below P nodes numbers k i history linked (at_root is_root is_empty) =
    subst (λ j. bound P [] (listed_of nodes numbers) k ≤ bound P history (listed_at nodes numbers j) k) (sym is_root) (subst (λ h. bound P [] (listed_of nodes numbers) k ≤ bound P h (listed_of nodes numbers) k) (sym is_empty) (omega arith))
bound_below P nodes numbers k i history linked (at_first parent d first second above there is before is_child is_history) =
    let block = (node_at nodes parent).block in
    let up = subst (λ t. bound P [] (listed_of nodes numbers) k ≤ bound P above t k) (listed_at_split nodes numbers parent d first second linked there is) (bound_below P nodes numbers k parent above linked before) in
    let here : bound P [] (listed_of nodes numbers) k ≤ bound P (Took d ∷ after block above) (listed_at nodes numbers first.number) k = omega (arith, up) in
    subst (λ j. bound P [] (listed_of nodes numbers) k ≤ bound P history (listed_at nodes numbers j) k) (sym is_child) (subst (λ h. bound P [] (listed_of nodes numbers) k ≤ bound P h (listed_at nodes numbers first.number) k) (sym is_history) here)
bound_below P nodes numbers k i history linked (at_second parent d first second above there is before is_child is_history) =
    let block = (node_at nodes parent).block in
    let up = subst (λ t. bound P [] (listed_of nodes numbers) k ≤ bound P above t k) (listed_at_split nodes numbers parent d first second linked there is) (bound_below P nodes numbers k parent above linked before) in
    let here : bound P [] (listed_of nodes numbers) k ≤ bound P (Refused d ∷ after block above) (listed_at nodes numbers second.number) k = omega (arith, up) in
    subst (λ j. bound P [] (listed_of nodes numbers) k ≤ bound P history (listed_at nodes numbers j) k) (sym is_child) (subst (λ h. bound P [] (listed_of nodes numbers) k ≤ bound P h (listed_at nodes numbers second.number) k) (sym is_history) here)

pub bound_at_law : BoundAtLaw
bound_at_law P nodes numbers k i history linked there free none before =
    let leaf = subst (λ t. bound P [] (listed_of nodes numbers) k ≤ bound P history t k) (listed_at_open nodes numbers i linked there free none) (bound_below P nodes numbers k i history linked before) in
    omega (arith, leaf)

pub none_open_law : NoneOpenLaw
none_open_law nodes numbers linked none =
    of_whole (λ history tree. open_leaves tree ≡ 0) nodes numbers linked
    (λ i history there before is number. absurd (none i there is number))
    (λ i j history there before is some. refl)
    (λ i history there before is. refl)
    (λ i history d first second there before is left right. omega (arith, left, right))

-- the whole tree has at least the open leaves of each subtree
open_below : (nodes : List Node) (numbers : List (Option ℕ)) (i : ℕ) (history : List Event) → IsLinked nodes → Before nodes i history → open_leaves (listed_at nodes numbers i) ≤ open_leaves (listed_of nodes numbers)
open_below nodes numbers i history linked (at_root is_root is_empty) = subst (λ j. open_leaves (listed_at nodes numbers j) ≤ open_leaves (listed_of nodes numbers)) (sym is_root) (omega arith)
open_below nodes numbers i history linked (at_first parent d first second above there is before is_child is_history) =
    let e = ap open_leaves (listed_at_split nodes numbers parent d first second linked there is) in
    let up = open_below nodes numbers parent above linked before in
    subst (λ j. open_leaves (listed_at nodes numbers j) ≤ open_leaves (listed_of nodes numbers)) (sym is_child) (omega (arith, e, up))
open_below nodes numbers i history linked (at_second parent d first second above there is before is_child is_history) =
    let e = ap open_leaves (listed_at_split nodes numbers parent d first second linked there is) in
    let up = open_below nodes numbers parent above linked before in
    subst (λ j. open_leaves (listed_at nodes numbers j) ≤ open_leaves (listed_of nodes numbers)) (sym is_child) (omega (arith, e, up))

pub some_open_law : SomeOpenLaw
some_open_law nodes numbers i linked there free none =
    let before = before_some nodes i linked there in
    let e = ap open_leaves (listed_at_open nodes numbers i linked there free none) in
    omega (arith, e, open_below nodes numbers i before.0 linked before.1)

-- lines that have a spelling, one behind the other
pub both_spelled : (ls more : List ListLine) → AllByRecursion IsSpelledLine ls → AllByRecursion IsSpelledLine more → AllByRecursion IsSpelledLine (ls ++ more)
both_spelled [] more one two = two
both_spelled (l ∷ ls) more one two = (one.0, both_spelled ls more one.1 two)

-- the lines of a block before others
block_spelled : (block : List Step) (more : List ListLine) → AllByRecursion IsSpelledStep block → AllByRecursion IsSpelledLine more → AllByRecursion IsSpelledLine (map (λ step. Says (lines.Node (Makes step))) block ++ more)
block_spelled [] more steps spelled = spelled
block_spelled (step ∷ block) more steps spelled = (steps.0, block_spelled block more steps.1 spelled)

leaf_spelled : (nodes : List Node) (numbers : List (Option ℕ)) (i : ℕ) (number : Option ℕ) → AllByRecursion IsSpelledStep (node_at nodes i).block → NumbersAreThere nodes numbers (greatest + 1) → i < length nodes → IsFree nodes i → number_at numbers i ≡ number → AllByRecursion IsSpelledLine (lines_of_tree (leaf_of (node_at nodes i).block number))
leaf_spelled nodes numbers i None steps spelled there free is = block_spelled (node_at nodes i).block (Says (lines.Node LeavesOpen) ∷ []) steps (tt, tt)
leaf_spelled nodes numbers i (Some j) steps spelled there free is = block_spelled (node_at nodes i).block (Lists j ∷ []) steps (omega (arith, spelled i j there free is), tt)

spelled_at : (nodes : List Node) (numbers : List (Option ℕ)) (tree : IsTree nodes) (i : ℕ) (e : End) → NumbersAreThere nodes numbers (greatest + 1) → i < length nodes → (node_at nodes i).end ≡ e → ((j : ℕ) → i < j → j < length nodes → AllByRecursion IsSpelledLine (lines_of_tree (listed_at nodes numbers j))) → AllByRecursion IsSpelledLine (lines_of_tree (with_listed (node_at nodes i).block e (number_at numbers i) (listed_at nodes numbers)))
spelled_at nodes numbers tree i Free spelled there is later = leaf_spelled nodes numbers i (number_at numbers i) (tree.blocks i there) spelled there is refl
spelled_at nodes numbers tree i Shut spelled there is later = block_spelled (node_at nodes i).block (Says (lines.Node Closes) ∷ []) (tree.blocks i there) (tt, tt)
spelled_at nodes numbers tree i (Split d first second) spelled there is later =
    let family = tree.linked.children i d first second there is in
    let e = subst (λ e. IsSpelledEnd e) is (tree.ends i there) in
    block_spelled (node_at nodes i).block _ (tree.blocks i there)
    (e, both_spelled (lines_of_tree (listed_at nodes numbers first.number)) (lines_of_tree (listed_at nodes numbers second.number)) (later first.number family.first_behind family.first_there) (later second.number family.second_behind family.second_there))

pub spelled_law : SpelledLaw
spelled_law nodes numbers tree spelled =
    from_last (length nodes) (λ i. AllByRecursion IsSpelledLine (lines_of_tree (listed_at nodes numbers i))) (λ i there later. subst (λ t. AllByRecursion IsSpelledLine (lines_of_tree t)) (sym (listed_at_is nodes numbers i tree.linked there)) (spelled_at nodes numbers tree i (node_at nodes i).end spelled there refl later)) 0 tree.linked.some

-- the numbers beside open leaves
pub numbers_law : NumbersLaw
numbers_law P list nodes numbers linked listed i j there free is =
    let before = before_some nodes i linked there in
    (listed i j before.0 there free is before.1).number
