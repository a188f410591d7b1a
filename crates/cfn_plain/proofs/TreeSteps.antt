-- What holds of the tree that begins at a node, from what holds of the node and of its children's trees.
use Rattle.std.proofs.Common.{◌≡◌, ℕ, ◌<◌, List, ◌∷◌, length, refl, sym, ap, ◌∙◌, subst}
use Rattle.std.specs.Prelude.{◌↔◌, Bool, true, false, IsTrue}
use Rattle.std.proofs.lemmas.Bool.{false≢true}
use Rattle.cfn_model.specs.declared.step.Step.{Step}
use Rattle.cfn_model.specs.declared.step.Decision.{Decision}
use Rattle.cfn_model.specs.declared.step.Event.{Event}
use Rattle.cfn_model.specs.Network.{Network}
use Rattle.cfn_model.specs.Steps.{Run, after}
use Rattle.cfn_model.specs.Tree.{Tree, Valid, Strict}
use Rattle.cfn_proof.specs.declared.tree.End.{End}
use Rattle.cfn_proof.specs.declared.tree.End.TheVariants.{Free, Shut, Split}
use Rattle.cfn_proof.specs.declared.tree.NodeId.{NodeId}
use Rattle.cfn_proof.specs.declared.tree.Node.{Node}
use Rattle.cfn_proof.specs.Nodes.{node_at, with_children, tree_at, IsLinked, IsFamily}
use Rattle.cfn_proof.proofs.CallerLemmas.{tree_at_is}

-- the tree that begins at a node with a known end
pub tree_is : (nodes : List Node) (i : ℕ) (node : Node) (e : End) → IsLinked nodes → i < length nodes → node ≡ node_at nodes i → node.end ≡ e → tree_at nodes i ≡ with_children node.block e (tree_at nodes)
tree_is nodes i node e linked there same is =
    tree_at_is nodes i linked there
    ∙ ap (λ (n : Node). with_children n.block n.end (tree_at nodes)) (sym same)
    ∙ ap (λ e. with_children node.block e (tree_at nodes)) is

-- the children of a node that is a split
pub family : (nodes : List Node) (i : ℕ) (node : Node) (d : Decision) (first second : NodeId) → IsLinked nodes → i < length nodes → node ≡ node_at nodes i → node.end ≡ Split d first second → IsFamily nodes i first.number second.number
family nodes i node d first second linked there same is =
    linked.children i d first second there (ap (λ (n : Node). n.end) (sym same) ∙ is)

-- the first block of a valid tree runs
runs_first : (P : Network) (history : List Event) (k : ℕ) (block : List Step) (e : End) (child : ℕ → Tree) → Valid P history (with_children block e child) k → Run P history block k
runs_first P history k block Free child valid = valid
runs_first P history k block Shut child valid = valid.0
runs_first P history k block (Split d first second) child valid = valid.0

pub valid_runs : (P : Network) (history : List Event) (k : ℕ) (nodes : List Node) (i : ℕ) (node : Node) → IsLinked nodes → i < length nodes → node ≡ node_at nodes i → Valid P history (tree_at nodes i) k → Run P history node.block k
valid_runs P history k nodes i node linked there same valid =
    let is = tree_at_is nodes i linked there ∙ ap (λ (n : Node). with_children n.block n.end (tree_at nodes)) (sym same) in
    runs_first P history k node.block node.end (tree_at nodes) (subst (λ t. Valid P history t k) is valid)

-- validity, strictness of the tree that begins at a node with a known end
pub valid_at : (P : Network) (history : List Event) (k : ℕ) (nodes : List Node) (i : ℕ) (node : Node) (e : End) → IsLinked nodes → i < length nodes → node ≡ node_at nodes i → node.end ≡ e → Valid P history (with_children node.block e (tree_at nodes)) k ↔ Valid P history (tree_at nodes i) k
valid_at P history k nodes i node e linked there same is =
    let whole = tree_is nodes i node e linked there same is in
    (λ v. subst (λ t. Valid P history t k) (sym whole) v, λ v. subst (λ t. Valid P history t k) whole v)

pub strict_at : (P : Network) (history : List Event) (nodes : List Node) (i : ℕ) (node : Node) (e : End) → IsLinked nodes → i < length nodes → node ≡ node_at nodes i → node.end ≡ e → Strict P history (with_children node.block e (tree_at nodes)) ↔ Strict P history (tree_at nodes i)
strict_at P history nodes i node e linked there same is =
    let whole = tree_is nodes i node e linked there same is in
    (λ v. subst (λ t. Strict P history t) (sym whole) v, λ v. subst (λ t. Strict P history t) whole v)

-- what is no split is strict
strict_leaf : (P : Network) (history : List Event) (block : List Step) (e : End) (child : ℕ → Tree) → ((d : Decision) (first second : NodeId) → e ≡ Split d first second → ⊥) → Strict P history (with_children block e child)
strict_leaf P history block Free child other = tt
strict_leaf P history block Shut child other = tt
strict_leaf P history block (Split d first second) child other = absurd (other d first second refl)

pub strict_at_leaf : (P : Network) (history : List Event) (nodes : List Node) (i : ℕ) (node : Node) → IsLinked nodes → i < length nodes → node ≡ node_at nodes i → ((d : Decision) (first second : NodeId) → node.end ≡ Split d first second → ⊥) → Strict P history (tree_at nodes i)
strict_at_leaf P history nodes i node linked there same other =
    (strict_at P history nodes i node node.end linked there same refl).0 (strict_leaf P history node.block node.end (tree_at nodes) other)

-- the history of a side of a split, as the code makes it
pub side_is : (event : Event) (block : List Step) (history behind lent items out : List Event) → out ≡ items → items ≡ event ∷ lent → lent ≡ behind → behind ≡ after block history → out ≡ event ∷ after block history
side_is event block history behind lent items out a b c d = a ∙ b ∙ ap (λ h. event ∷ h) (c ∙ d)

-- an answer that is the second where the first is yes, and else the first
pub both_yes : {A B : Type 0} (answer one other : Bool) → one ≡ true → answer ≡ other → (IsTrue one ↔ A) → (IsTrue other ↔ B) → IsTrue answer ↔ (A × B)
both_yes answer one other held is first second = (λ h. (first.0 held, second.0 (sym is ∙ h)), λ h. is ∙ second.1 h.1)

pub both_no : {A B : Type 0} (answer one : Bool) → one ≡ false → answer ≡ one → (IsTrue one ↔ A) → IsTrue answer ↔ (A × B)
both_no answer one failed is first = (λ h. absurd (false≢true (sym failed ∙ sym is ∙ h)), λ h. is ∙ first.1 h.0)
