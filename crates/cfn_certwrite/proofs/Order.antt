-- What stands behind a node in the order of the lines of its tree.
use Rattle.std.proofs.Common.{◌≡◌, ℕ, zero, suc, ◌+◌, ◌-◌, ◌<◌, ◌≤◌, Bool, true, false, List, [], ◌∷◌, ◌++◌, length, map, Option, Some, None, cond, eqb, refl, sym, ap, ap₂, ◌∙◌, subst, inl, inr, ◌⊎◌, eq-eqb, append_assoc, arith}
use Rattle.std.proofs.lemmas.List.{append-nil}
use Rattle.std.proofs.lemmas.List.Concat.{flat_map-append}
use Rattle.std.proofs.lemmas.Bool.{ne_eqb, false≢true}
use Rattle.std.specs.Prelude.{IfSome, is_some, flat_map}
use Rattle.cfn_model.specs.declared.step.Decision.{Decision}
use Rattle.cfn_model.specs.Text.{decision_words, step_words, text, tree_lines}
use Rattle.cfn_proof.specs.declared.tree.NodeId.{NodeId}
use Rattle.cfn_proof.specs.declared.tree.End.{End}
use Rattle.cfn_proof.specs.declared.tree.End.TheVariants.{Free, Shut, Split}
use Rattle.cfn_proof.specs.declared.tree.Node.{Node}
use Rattle.cfn_proof.specs.Nodes.{node_at, with_children, tree_at, tree_of, IsLinked}
use Rattle.cfn_proof.proofs.CallerLemmas.{tree_at_is}
use Rattle.cfn_line.proofs.CallerLemmas.{text-append}
use Rattle.cfn_certwrite.specs.Walk.{end_words, node_lines, second_after, with_own, order_within, order_at, sibling_order, order_above, behind_within, order_behind, order_from, order_left, lines_in}

-- the order of a node's tree, where two ways of naming those of its children agree
with_own_ext : (i : ℕ) (e : End) (f g : ℕ → List ℕ) → ((d : Decision) (first second : NodeId) → e ≡ Split d first second → (f first.number ≡ g first.number) × (f second.number ≡ g second.number)) → with_own i e f ≡ with_own i e g
with_own_ext i Free f g same = refl
with_own_ext i Shut f g same = refl
with_own_ext i (Split d first second) f g same =
    let s = same d first second refl in
    ap₂ (λ a b. i ∷ (a ++ b)) s.0 s.1

-- any depth that is no less than the number of nodes from a node on serves
order_deep : (nodes : List Node) (m n i : ℕ) → IsLinked nodes → i < length nodes → length nodes ≤ i + m → length nodes ≤ i + n → order_within nodes m i ≡ order_within nodes n i
order_deep nodes zero n i linked there low high = absurd (omega arith)
order_deep nodes (suc m) zero i linked there low high = absurd (omega arith)
order_deep nodes (suc m) (suc n) i linked there low high =
    with_own_ext i (node_at nodes i).end (order_within nodes m) (order_within nodes n) (λ d first second is.
    let family = linked.children i d first second there is in
    let one : i < first.number = family.first_behind in
    let two : i < second.number = family.second_behind in
    (order_deep nodes m n first.number linked family.first_there (omega arith) (omega arith), order_deep nodes m n second.number linked family.second_there (omega arith) (omega arith)))

order_at_is : (nodes : List Node) (i : ℕ) → IsLinked nodes → i < length nodes → order_at nodes i ≡ with_own i (node_at nodes i).end (order_at nodes)
unfolding order_at
order_at_is nodes i linked there =
    order_deep nodes (length nodes - i) (suc (length nodes)) i linked there (omega arith) (omega arith)
    ∙ with_own_ext i (node_at nodes i).end (order_within nodes (length nodes)) (order_at nodes) (λ d first second is.
    let family = linked.children i d first second there is in
    let one : first.number < length nodes = family.first_there in
    let two : second.number < length nodes = family.second_there in
    (order_deep nodes (length nodes) (length nodes - first.number) first.number linked one (omega arith) (omega arith), order_deep nodes (length nodes) (length nodes - second.number) second.number linked two (omega arith) (omega arith)))

-- items of nodes: where those of a leaf's tree are its own, and those of a split's tree its own before those of its
-- children's trees, the items of a tree are those of its nodes, in the order of their lines
module _ {T : Type 0} (nodes : List Node) (whole own : ℕ → List T) (linked : IsLinked nodes) (of_free : (i : ℕ) → i < length nodes → (node_at nodes i).end ≡ Free → whole i ≡ own i) (of_shut : (i : ℕ) → i < length nodes → (node_at nodes i).end ≡ Shut → whole i ≡ own i) (of_split : (i : ℕ) (d : Decision) (first second : NodeId) → i < length nodes → (node_at nodes i).end ≡ Split d first second → whole i ≡ own i ++ (whole first.number ++ whole second.number)) where
  at_end : (depth i : ℕ) (e : End) → i < length nodes → length nodes ≤ i + suc depth → (node_at nodes i).end ≡ e → ((j : ℕ) → i < j → j < length nodes → whole j ≡ flat_map own (order_within nodes depth j)) → whole i ≡ flat_map own (with_own i e (order_within nodes depth))
  at_end depth i Free there far is below = of_free i there is ∙ sym (append-nil (own i))
  at_end depth i Shut there far is below = of_shut i there is ∙ sym (append-nil (own i))
  at_end depth i (Split d first second) there far is below =
      let family = linked.children i d first second there is in
      of_split i d first second there is
      ∙ ap (λ t. own i ++ t)
      (ap₂ (λ a b. a ++ b) (below first.number family.first_behind family.first_there) (below second.number family.second_behind family.second_there)
      ∙ sym (flat_map-append own (order_within nodes depth first.number) (order_within nodes depth second.number)))

  within : (depth i : ℕ) → i < length nodes → length nodes ≤ i + depth → whole i ≡ flat_map own (order_within nodes depth i)
  within zero i there far = absurd (omega arith)
  within (suc depth) i there far = at_end depth i (node_at nodes i).end there far refl (λ j behind inside. within depth j inside (omega arith))

  pub in_order : (i : ℕ) → i < length nodes → whole i ≡ flat_map own (order_at nodes i)
  unfolding order_at
  in_order i there = within (length nodes - i) i there (omega arith)

above_ext : (nodes : List Node) (i : ℕ) (parent : Option NodeId) (f g : ℕ → List ℕ) → ((p : NodeId) → parent ≡ Some p → f p.number ≡ g p.number) → order_above nodes i parent f ≡ order_above nodes i parent g
above_ext nodes i None f g same = refl
above_ext nodes i (Some p) f g same = ap (sibling_order nodes (second_after (node_at nodes p.number).end i)) (same p refl)

-- a node without a parent
at_top : (nodes : List Node) (depth i : ℕ) → IsLinked nodes → i ≡ 0 → behind_within nodes depth i ≡ []
at_top nodes zero i linked first = refl
at_top nodes (suc depth) i linked first =
    let none : (node_at nodes i).parent ≡ None = subst (λ (k : ℕ). (node_at nodes k).parent ≡ None) (sym first) linked.root in
    ap (λ p. order_above nodes i p (behind_within nodes depth)) none

-- any depth that is no less than a node's number serves
deep_enough : (nodes : List Node) (m n i : ℕ) → IsLinked nodes → i < length nodes → i ≤ m → i ≤ n → behind_within nodes m i ≡ behind_within nodes n i
deep_enough nodes zero n i linked there low high = sym (at_top nodes n i linked (omega arith))
deep_enough nodes (suc m) zero i linked there low high = at_top nodes (suc m) i linked (omega arith)
deep_enough nodes (suc m) (suc n) i linked there low high =
    above_ext nodes i (node_at nodes i).parent (behind_within nodes m) (behind_within nodes n) (λ p is.
    let before : p.number < i = (linked.parents i p there is).0 in
    deep_enough nodes m n p.number linked (omega arith) (omega arith) (omega arith))

behind_parent_within : (nodes : List Node) (depth i : ℕ) (p : NodeId) → IsLinked nodes → i ≡ suc depth → i < length nodes → (node_at nodes i).parent ≡ Some p → behind_within nodes (suc depth) i ≡ sibling_order nodes (second_after (node_at nodes p.number).end i) (behind_within nodes p.number p.number)
behind_parent_within nodes depth i p linked deep there is =
    let before : p.number < i = (linked.parents i p there is).0 in
    ap (λ q. order_above nodes i q (behind_within nodes depth)) is
    ∙ ap (sibling_order nodes (second_after (node_at nodes p.number).end i)) (deep_enough nodes depth p.number p.number linked (omega arith) (omega arith) (omega arith))

-- behind a child
pub behind_child : (nodes : List Node) (i : ℕ) (p : NodeId) → IsLinked nodes → i < length nodes → (node_at nodes i).parent ≡ Some p → order_behind nodes i ≡ sibling_order nodes (second_after (node_at nodes p.number).end i) (order_behind nodes p.number)
unfolding order_behind
behind_child nodes zero p linked there is = let before : p.number < 0 = (linked.parents 0 p there is).0 in absurd (omega arith)
behind_child nodes (suc depth) p linked there is = behind_parent_within nodes depth (suc depth) p linked refl there is

-- behind the root
pub behind_root : (nodes : List Node) (i : ℕ) → IsLinked nodes → i < length nodes → (node_at nodes i).parent ≡ None → order_behind nodes i ≡ []
unfolding order_behind
behind_root nodes i linked there is = at_top nodes i i linked (linked.only_root i there is)

some_if : {T : Type 0} (b : Bool) (x y : T) → cond b (Some x) None ≡ Some y → x ≡ y
some_if true x y h = cc
some_if false x y h = cc

second_of : (nodes : List Node) (i p : ℕ) (s : NodeId) (e : End) → IsLinked nodes → p < length nodes → (node_at nodes p).end ≡ e → second_after e i ≡ Some s → (s.number < length nodes) × (order_behind nodes s.number ≡ order_behind nodes p)
second_of nodes i p s Free linked there is found = cc
second_of nodes i p s Shut linked there is found = cc
second_of nodes i p s (Split d first second) linked there is found =
    let family = linked.children p d first second there is in
    let same : second ≡ s = some_if (eqb first.number i) second s found in
    let other : eqb first.number second.number ≡ false = ne_eqb first.number second.number family.different in
    let behind = behind_child nodes second.number (record { number = p }) linked family.second_there family.second_knows in
    let e : second_after (node_at nodes p).end second.number ≡ None = ap (λ end. second_after end second.number) is ∙ ap (λ b. cond b (Some second) None) other in
    let behind_second : order_behind nodes second.number ≡ order_behind nodes p = behind ∙ ap (λ o. sibling_order nodes o (order_behind nodes p)) e in
    subst (λ (t : NodeId). (t.number < length nodes) × (order_behind nodes t.number ≡ order_behind nodes p)) same (family.second_there, behind_second)

-- behind a first child stand the nodes from the second
behind_first : (nodes : List Node) (i : ℕ) (p s : NodeId) → IsLinked nodes → i < length nodes → (node_at nodes i).parent ≡ Some p → second_after (node_at nodes p.number).end i ≡ Some s → (s.number < length nodes) × (order_behind nodes i ≡ order_from nodes s.number)
behind_first nodes i p s linked there is found =
    let before : p.number < i = (linked.parents i p there is).0 in
    let second = second_of nodes i p.number s (node_at nodes p.number).end linked (omega arith) refl found in
    (second.0, behind_child nodes i p linked there is ∙ ap (λ o. sibling_order nodes o (order_behind nodes p.number)) found ∙ ap (λ t. order_at nodes s.number ++ t) (sym second.1))

pub behind_sibling : (nodes : List Node) (i : ℕ) (p : NodeId) (parent : Node) (s : Option NodeId) → IsLinked nodes → i < length nodes → (node_at nodes i).parent ≡ Some p → parent ≡ node_at nodes p.number → s ≡ second_after parent.end i → is_some s ≡ true → IfSome s (λ next. next.number < length nodes) × (order_behind nodes i ≡ order_left nodes s)
behind_sibling nodes i p parent None linked there is same found some = absurd (false≢true some)
behind_sibling nodes i p parent (Some s) linked there is same found some =
    behind_first nodes i p s linked there is (ap (λ n. second_after n.end i) (sym same) ∙ sym found)

-- behind another child stands what stands behind its parent
pub behind_parent : (nodes : List Node) (i : ℕ) (p : NodeId) (parent : Node) (s : Option NodeId) → IsLinked nodes → i < length nodes → (node_at nodes i).parent ≡ Some p → parent ≡ node_at nodes p.number → s ≡ second_after parent.end i → is_some s ≡ false → (p.number < i) × (order_behind nodes i ≡ order_behind nodes p.number)
behind_parent nodes i p parent None linked there is same found none = (
  (linked.parents i p there is).0,
  behind_child nodes i p linked there is ∙ ap (λ o. sibling_order nodes o (order_behind nodes p.number)) (ap (λ n. second_after n.end i) (sym same) ∙ sym found),
)
behind_parent nodes i p parent (Some s) linked there is same found none = absurd (false≢true (sym none))

-- from a leaf
order_of_end : (nodes : List Node) (i : ℕ) (e : End) → IsLinked nodes → i < length nodes → (node_at nodes i).end ≡ e → order_at nodes i ≡ with_own i e (order_at nodes)
order_of_end nodes i e linked there is = order_at_is nodes i linked there ∙ ap (λ end. with_own i end (order_at nodes)) is

of_leaf : (nodes : List Node) (i : ℕ) (e : End) → (e ≡ Free) ⊎ (e ≡ Shut) → with_own i e (order_at nodes) ≡ i ∷ []
of_leaf nodes i e (inl free) = ap (λ end. with_own i end (order_at nodes)) free
of_leaf nodes i e (inr shut) = ap (λ end. with_own i end (order_at nodes)) shut

pub from_leaf : (nodes : List Node) (i : ℕ) (node : Node) → IsLinked nodes → i < length nodes → node ≡ node_at nodes i → (node.end ≡ Free) ⊎ (node.end ≡ Shut) → order_from nodes i ≡ i ∷ order_behind nodes i
from_leaf nodes i node linked there is leaf =
    ap (λ t. t ++ order_behind nodes i) (order_of_end nodes i node.end linked there (ap (λ n. n.end) (sym is)) ∙ of_leaf nodes i node.end leaf)

-- from a split
pub from_split : (nodes : List Node) (i : ℕ) (d : Decision) (first second : NodeId) → IsLinked nodes → i < length nodes → (node_at nodes i).end ≡ Split d first second → order_from nodes i ≡ i ∷ order_from nodes first.number
from_split nodes i d first second linked there is =
    let family = linked.children i d first second there is in
    let found : second_after (node_at nodes i).end first.number ≡ Some second = ap (λ end. second_after end first.number) is ∙ ap (λ b. cond b (Some second) None) (eq-eqb first.number first.number refl) in
    let behind : order_behind nodes first.number ≡ order_at nodes second.number ++ order_behind nodes i = behind_child nodes first.number (record { number = i }) linked family.first_there family.first_knows ∙ ap (λ o. sibling_order nodes o (order_behind nodes i)) found in
    ap (λ t. t ++ order_behind nodes i) (order_of_end nodes i (Split d first second) linked there is)
    ∙ ap (λ t. i ∷ t) (append_assoc (order_at nodes first.number) (order_at nodes second.number) (order_behind nodes i))
    ∙ ap (λ t. i ∷ (order_at nodes first.number ++ t)) (sym behind)

-- the whole tree from its root
pub from_root : (nodes : List Node) → IsLinked nodes → order_from nodes 0 ≡ order_at nodes 0
from_root nodes linked = ap (λ t. order_at nodes 0 ++ t) (behind_root nodes 0 linked linked.some linked.root) ∙ append-nil _

-- a node itself stands first
own_at_end : (nodes : List Node) (i : ℕ) (e : End) → IsLinked nodes → i < length nodes → (node_at nodes i).end ≡ e → (rest : List ℕ) × (order_from nodes i ≡ i ∷ rest)
own_at_end nodes i Free linked there is = (order_behind nodes i, from_leaf nodes i (node_at nodes i) linked there refl (inl is))
own_at_end nodes i Shut linked there is = (order_behind nodes i, from_leaf nodes i (node_at nodes i) linked there refl (inr is))
own_at_end nodes i (Split d first second) linked there is = (order_from nodes first.number, from_split nodes i d first second linked there is)

pub own_first : (nodes : List Node) (i : ℕ) → IsLinked nodes → i < length nodes → (rest : List ℕ) × (order_from nodes i ≡ i ∷ rest)
own_first nodes i linked there = own_at_end nodes i (node_at nodes i).end linked there refl

-- the lines of a tree
lines_at_end : (nodes : List Node) (i : ℕ) (e : End) → IsLinked nodes → i < length nodes → (node_at nodes i).end ≡ e → tree_lines (tree_at nodes i) ≡ tree_lines (with_children (node_at nodes i).block e (tree_at nodes))
lines_at_end nodes i e linked there is = ap tree_lines (tree_at_is nodes i linked there) ∙ ap (λ end. tree_lines (with_children (node_at nodes i).block end (tree_at nodes))) is

-- the lines of a whole tree are those of its nodes
pub tree_in_order : (nodes : List Node) → IsLinked nodes → tree_lines (tree_of nodes) ≡ lines_in nodes (order_from nodes 0)
tree_in_order nodes linked =
    in_order nodes (λ i. tree_lines (tree_at nodes i)) (λ i. node_lines (node_at nodes i)) linked
    (λ i there is. lines_at_end nodes i Free linked there is ∙ ap (λ e. map step_words (node_at nodes i).block ++ end_words e ∷ []) (sym is))
    (λ i there is. lines_at_end nodes i Shut linked there is ∙ ap (λ e. map step_words (node_at nodes i).block ++ end_words e ∷ []) (sym is))
    (λ i d first second there is.
    lines_at_end nodes i (Split d first second) linked there is
    ∙ sym (append_assoc (map step_words (node_at nodes i).block) (decision_words d ∷ []) (tree_lines (tree_at nodes first.number) ++ tree_lines (tree_at nodes second.number)))
    ∙ ap (λ e. (map step_words (node_at nodes i).block ++ end_words e ∷ []) ++ (tree_lines (tree_at nodes first.number) ++ tree_lines (tree_at nodes second.number))) (sym is))
    0 linked.some
    ∙ ap (lines_in nodes) (sym (from_root nodes linked))

-- the text from a node
pub text_left : (nodes : List Node) (next : Option NodeId) (id : NodeId) (rest : List ℕ) → next ≡ Some id → order_from nodes id.number ≡ id.number ∷ rest → text (lines_in nodes (order_left nodes next)) ≡ text (node_lines (node_at nodes id.number)) ++ text (lines_in nodes rest)
text_left nodes next id rest is parts =
    ap (λ n. text (lines_in nodes (order_left nodes n))) is ∙ ap (λ order. text (lines_in nodes order)) parts ∙ text-append (node_lines (node_at nodes id.number)) (lines_in nodes rest)
