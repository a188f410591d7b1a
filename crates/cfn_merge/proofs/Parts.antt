-- What a node of the joined tree is to be.
use Rattle.std.proofs.Common.{◌≡◌, ℕ, ◌<◌, List, length, refl, sym, ap, ap₂, ◌∙◌, subst}
use Rattle.std.specs.Prelude.{true, false, if◌then◌else◌, Some, None}
use Rattle.cfn_model.specs.declared.step.Step.{Step}
use Rattle.cfn_model.specs.declared.step.Decision.{Decision}
use Rattle.cfn_model.specs.Tree as trees
use Rattle.cfn_proof.specs.declared.tree.NodeId.{NodeId}
use Rattle.cfn_proof.specs.declared.tree.End.{End}
use Rattle.cfn_proof.specs.declared.tree.End.TheVariants as ends
use Rattle.cfn_proof.specs.declared.tree.Node.{Node}
use Rattle.cfn_proof.specs.Nodes.{node_at, tree_at, with_children, IsLinked}
use Rattle.cfn_proof.proofs.CallerLemmas.{tree_at_is}
use Rattle.cfn_mending.specs.Joining.{gives_way, higher, join}
use Rattle.cfn_merge.specs.declared.pair.Source.TheVariants.{First, Second, Both}
use Rattle.cfn_merge.specs.declared.pair.Ending.{Ending}
use Rattle.cfn_merge.specs.declared.pair.Ending.TheVariants as endings
use Rattle.cfn_merge.specs.Ranking.{AreBelow}
use Rattle.cfn_merge.specs.Same.{same}
use Rattle.cfn_merge.specs.Sources.{due_by, with_sources, AreThere, IsPart, IsOneSplit}
use Rattle.cfn_merge.proofs.Ranked.{children_below}

-- ---- a node alone

pub first_alone : (first second : List Node) (id : NodeId) (node : Node) (ending : Ending) → IsLinked first → id.number < length first → node ≡ node_at first id.number →
    ((block : List Step) (one two : ℕ → trees.Tree) → with_children block node.end one ≡ with_sources block ending (due_by one two)) → ((n m : ℕ) → AreBelow n node.end → AreThere n m ending) → IsPart first second (First id) node.block ending
first_alone first second id node ending linked there is ends below = record {
  is = tree_at_is first id.number linked there ∙ ap (λ (n : Node). with_children n.block n.end (tree_at first)) (sym is) ∙ ends node.block (tree_at first) (tree_at second);
  there = below (length first) (length second) (subst (λ (n : Node). AreBelow (length first) n.end) (sym is) (children_below first id.number linked there));
}

pub second_alone : (first second : List Node) (id : NodeId) (node : Node) (ending : Ending) → IsLinked second → id.number < length second → node ≡ node_at second id.number →
    ((block : List Step) (one two : ℕ → trees.Tree) → with_children block node.end two ≡ with_sources block ending (due_by one two)) → ((n m : ℕ) → AreBelow m node.end → AreThere n m ending) → IsPart first second (Second id) node.block ending
second_alone first second id node ending linked there is ends below = record {
  is = tree_at_is second id.number linked there ∙ ap (λ (n : Node). with_children n.block n.end (tree_at second)) (sym is) ∙ ends node.block (tree_at first) (tree_at second);
  there = below (length first) (length second) (subst (λ (n : Node). AreBelow (length second) n.end) (sym is) (children_below second id.number linked there));
}

-- ---- two nodes

module _ (first second : List Node) (a b : NodeId) (x y : Node) (first_linked : IsLinked first) (second_linked : IsLinked second) (a_there : a.number < length first) (b_there : b.number < length second)
    (x_is : x ≡ node_at first a.number) (y_is : y ≡ node_at second b.number) where
  first_is : tree_at first a.number ≡ with_children x.block x.end (tree_at first)
  first_is = tree_at_is first a.number first_linked a_there ∙ ap (λ (n : Node). with_children n.block n.end (tree_at first)) (sym x_is)

  second_is : tree_at second b.number ≡ with_children y.block y.end (tree_at second)
  second_is = tree_at_is second b.number second_linked b_there ∙ ap (λ (n : Node). with_children n.block n.end (tree_at second)) (sym y_is)

  pub both_joined : (ending : Ending) → IsOneSplit x y (Some ending) → IsPart first second (Both a b) x.block ending
  both_joined ending one = record {
    is = ap₂ (join same) first_is second_is ∙ one.0 (tree_at first) (tree_at second);
    there = one.1 (length first) (length second) (subst (λ (n : Node). AreBelow (length first) n.end) (sym x_is) (children_below first a.number first_linked a_there))
        (subst (λ (n : Node). AreBelow (length second) n.end) (sym y_is) (children_below second b.number second_linked b_there));
  }

  higher_is : IsOneSplit x y None → join same (tree_at first a.number) (tree_at second b.number) ≡ higher (tree_at first a.number) (tree_at second b.number)
  higher_is none = ap₂ (join same) first_is second_is ∙ none (tree_at first) (tree_at second) ∙ ap₂ higher (sym first_is) (sym second_is)

  pub second_stands : (block : List Step) (ending : Ending) → IsOneSplit x y None → gives_way (tree_at first a.number) (tree_at second b.number) ≡ true → IsPart first second (Second b) block ending → IsPart first second (Both a b) block ending
  second_stands block ending none way part = record {
    is = higher_is none ∙ ap (λ t. if t then tree_at second b.number else tree_at first a.number) way ∙ part.is;
    there = part.there;
  }

  pub first_stands : (block : List Step) (ending : Ending) → IsOneSplit x y None → gives_way (tree_at first a.number) (tree_at second b.number) ≡ false → IsPart first second (First a) block ending → IsPart first second (Both a b) block ending
  first_stands block ending none way part = record {
    is = higher_is none ∙ ap (λ t. if t then tree_at second b.number else tree_at first a.number) way ∙ part.is;
    there = part.there;
  }

-- ---- whether two nodes are one split

pub one_split_is : (x y : Node) (d e : Decision) (a b p q : NodeId) → x.end ≡ ends.Split d a b → y.end ≡ ends.Split e p q → same x.block d y.block e ≡ true →
    IsOneSplit x y (Some (endings.Split d (Both a p) (Both b q)))
one_split_is x y d e a b p q x_is y_is test = (
  (λ one two. ap₂ (λ (f g : End). join same (with_children x.block f one) (with_children y.block g two)) x_is y_is
      ∙ ap (λ t. if t then trees.Split x.block d (join same (one a.number) (two p.number)) (join same (one b.number) (two q.number)) else higher (trees.Split x.block d (one a.number) (one b.number)) (trees.Split y.block e (two p.number) (two q.number))) test),
  (λ n m below above. let f : AreBelow n (ends.Split d a b) = subst (AreBelow n) x_is below in let g : AreBelow m (ends.Split e p q) = subst (AreBelow m) y_is above in ((f.0, g.0), (f.1, g.1))),
)

pub split_is_other : (x y : Node) (d e : Decision) (a b p q : NodeId) → x.end ≡ ends.Split d a b → y.end ≡ ends.Split e p q → same x.block d y.block e ≡ false → IsOneSplit x y None
split_is_other x y d e a b p q x_is y_is test one two =
    ap₂ (λ (f g : End). join same (with_children x.block f one) (with_children y.block g two)) x_is y_is
    ∙ ap (λ t. if t then trees.Split x.block d (join same (one a.number) (two p.number)) (join same (one b.number) (two q.number)) else higher (trees.Split x.block d (one a.number) (one b.number)) (trees.Split y.block e (two p.number) (two q.number))) test
    ∙ ap₂ (λ (f g : End). higher (with_children x.block f one) (with_children y.block g two)) (sym x_is) (sym y_is)

-- a leaf is no split
abbrev pub IsLeaf : End → Type 0
IsLeaf ends.Free = Unit {0}
IsLeaf ends.Shut = Unit {0}
IsLeaf (ends.Split d first second) = ⊥

leaf_by : (x y : Node) (f g : End) → IsLeaf f → (one two : ℕ → trees.Tree) → join same (with_children x.block f one) (with_children y.block g two) ≡ higher (with_children x.block f one) (with_children y.block g two)
leaf_by x y ends.Free g leaf one two = refl
leaf_by x y ends.Shut g leaf one two = refl
leaf_by x y (ends.Split d first second) g leaf one two = absurd leaf

pub first_is_leaf : (x y : Node) → IsLeaf x.end → IsOneSplit x y None
first_is_leaf x y leaf one two = leaf_by x y x.end y.end leaf one two

other_by : (x y : Node) (f g : End) → IsLeaf g → (one two : ℕ → trees.Tree) → join same (with_children x.block f one) (with_children y.block g two) ≡ higher (with_children x.block f one) (with_children y.block g two)
other_by x y ends.Free g leaf one two = refl
other_by x y ends.Shut g leaf one two = refl
other_by x y (ends.Split d first second) ends.Free leaf one two = refl
other_by x y (ends.Split d first second) ends.Shut leaf one two = refl
other_by x y (ends.Split d first second) (ends.Split e third fourth) leaf one two = absurd leaf

pub second_is_leaf : (x y : Node) → IsLeaf y.end → IsOneSplit x y None
second_is_leaf x y leaf one two = other_by x y x.end y.end leaf one two
