-- A tree is made leaf by leaf.
use Rattle.std.proofs.Common.{◌≡◌, ◌≢◌, ℕ, ◌+◌, ◌<◌, inl, inr, List, [], ◌∷◌, refl, sym, ap, ap₂, ◌∙◌, subst, arith, length}
use Rattle.std.specs.Prelude.{None}
use Rattle.std.proofs.lemmas.Bool.{cases_eq}
use Rattle.cfn_model.specs.Tree as trees
use Rattle.cfn_proof.specs.declared.tree.End.{End}
use Rattle.cfn_proof.specs.declared.tree.End.TheVariants.{Free, Shut, Split}
use Rattle.cfn_proof.specs.declared.tree.Node.{Node}
use Rattle.cfn_proof.specs.Nodes.{node_at, open_node, IsFree, IsLinked, split_behind_at, close_at, leave_at, tree_at, with_children}
use Rattle.cfn_proof.proofs.CallerLemmas.{length-split_behind_at, split_behind_at-first, split_behind_at-other, split_behind_at-same, split_behind_at-second, length-close_at, close_at-other, close_at-same, length-leave_at, leave_at-other, leave_at-same, tree_at_is}
use Rattle.cfn_mending.specs.Making.{Makes, SameDue, SameBut, at_due, at_shut, at_split}
use Rattle.cfn_mending.specs.MakingLaws.{MakesFromOne, MakesSame, MakesSplit, MakesClose, MakesLeave, MakesWhole}

pub makes_from_one : MakesFromOne
makes_from_one due = at_due (omega arith) refl refl

-- the same is due everywhere
module _ (nodes : List Node) (due new : ℕ → trees.Tree) (same : SameDue nodes due new) where
  stays : (j : ℕ) (tree : trees.Tree) → Makes nodes due j tree → Makes nodes new j tree
  stays j tree (at_due there free is) = at_due there free (is ∙ sym (same j there))
  stays j tree (at_shut there end is) = at_shut there end is
  stays j tree (at_split d first second one two there end a b is) = at_split d first second one two there end (stays first.number one a) (stays second.number two b) is

pub makes_same : MakesSame
makes_same nodes due new tree same makes = stays nodes due new same 0 tree makes

-- what is made of a tree by a change at one leaf: the others stay, and at the leaf the new nodes make what was due
module _ (nodes changed : List Node) (due new : ℕ → trees.Tree) (i : ℕ) (free : IsFree nodes i) (grows : (j : ℕ) → j < length nodes → j < length changed)
    (others : (j : ℕ) → j < length nodes → j ≢ i → node_at changed j ≡ node_at nodes j) (same : SameBut nodes i due new) (here : Makes changed new i (due i)) where
  changes : (j : ℕ) (tree : trees.Tree) → Makes nodes due j tree → Makes changed new j tree
  changes j tree (at_due there frees is) = elim (cases_eq j i) [
    | inl at ↦ subst (λ t. Makes changed new j t) (sym is) (subst (λ m. Makes changed new m (due m)) (sym at) here)
    | inr other ↦ at_due (grows j there) (ap (λ (n : Node). n.end) (others j there other) ∙ frees) (is ∙ sym (same j there other))
  ]
  changes j tree (at_shut there end is) = elim (cases_eq j i) [
    | inl at ↦ absurd (let e : Free ≡ Shut = sym free ∙ subst (λ m. (node_at nodes m).end ≡ Shut) at end in cc)
    | inr other ↦ at_shut (grows j there) (ap (λ (n : Node). n.end) (others j there other) ∙ end) (is ∙ ap (λ (n : Node). trees.Closed n.block) (sym (others j there other)))
  ]
  changes j tree (at_split d first second one two there end a b is) = elim (cases_eq j i) [
    | inl at ↦ absurd (let e : Free ≡ Split d first second = sym free ∙ subst (λ m. (node_at nodes m).end ≡ Split d first second) at end in cc)
    | inr other ↦ at_split d first second one two (grows j there) (ap (λ (n : Node). n.end) (others j there other) ∙ end) (changes first.number one a) (changes second.number two b)
        (is ∙ ap (λ (n : Node). trees.Split n.block d one two) (sym (others j there other)))
  ]

pub makes_split : MakesSplit
makes_split nodes due new i block d tree there free is same makes =
    let n = length nodes in
    let after = split_behind_at nodes i block d in
    let len = length-split_behind_at nodes i block d there in
    let leaf = split_behind_at-same nodes i block d there in
    let first : Makes after new n (new n) = at_due (omega (arith, len)) (ap (λ (m : Node). m.end) (split_behind_at-first nodes i block d there)) refl in
    let second : Makes after new (n + 1) (new (n + 1)) = at_due (omega (arith, len)) (ap (λ (m : Node). m.end) (split_behind_at-second nodes i block d there)) refl in
    let here : Makes after new i (due i) = at_split d (record { number = n }) (record { number = n + 1 }) (new n) (new (n + 1)) (omega (arith, len, there)) (ap (λ (m : Node). m.end) leaf) first second
    (is ∙ ap (λ (m : Node). trees.Split m.block d (new n) (new (n + 1))) (sym leaf)) in
    changes nodes after due new i free (λ j h. omega (arith, h, len)) (λ j h other. split_behind_at-other nodes i block d there j h other) same here 0 tree makes

pub makes_close : MakesClose
makes_close nodes due new i block tree there free is same makes =
    let after = close_at nodes i block in
    let len = length-close_at nodes i block there in
    let leaf = close_at-same nodes i block there in
    let here : Makes after new i (due i) = at_shut (omega (arith, len, there)) (ap (λ (m : Node). m.end) leaf) (is ∙ ap (λ (m : Node). trees.Closed m.block) (sym leaf)) in
    changes nodes after due new i free (λ j h. omega (arith, h, len)) (λ j h other. close_at-other nodes i block there j other) same here 0 tree makes

pub makes_leave : MakesLeave
makes_leave nodes due i block tree there free makes =
    let after = leave_at nodes i block in
    let len = length-leave_at nodes i block there in
    let here : Makes after due i (due i) = at_due (omega (arith, len, there)) (ap (λ (m : Node). m.end) (leave_at-same nodes i block there) ∙ free) refl in
    changes nodes after due due i free (λ j h. omega (arith, h, len)) (λ j h other. leave_at-other nodes i block there j other) (λ j h other. refl) here 0 tree makes

-- where each open leaf is due as it is
module _ (nodes : List Node) (due : ℕ → trees.Tree) (linked : IsLinked nodes) (whole : (i : ℕ) → i < length nodes → IsFree nodes i → due i ≡ trees.Open (node_at nodes i).block) where
  made_at : (i : ℕ) (tree : trees.Tree) → Makes nodes due i tree → tree_at nodes i ≡ tree
  made_at i tree (at_due there free is) =
      tree_at_is nodes i linked there ∙ ap (λ (e : End). with_children (node_at nodes i).block e (tree_at nodes)) free ∙ sym (whole i there free) ∙ sym is
  made_at i tree (at_shut there end is) =
      tree_at_is nodes i linked there ∙ ap (λ (e : End). with_children (node_at nodes i).block e (tree_at nodes)) end ∙ sym is
  made_at i tree (at_split d first second one two there end a b is) =
      tree_at_is nodes i linked there ∙ ap (λ (e : End). with_children (node_at nodes i).block e (tree_at nodes)) end
      ∙ ap₂ (λ x y. trees.Split (node_at nodes i).block d x y) (made_at first.number one a) (made_at second.number two b) ∙ sym is

pub makes_whole : MakesWhole
makes_whole nodes due tree linked whole makes = made_at nodes due linked whole 0 tree makes
