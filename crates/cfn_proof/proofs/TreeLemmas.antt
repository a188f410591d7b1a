-- Facts on a tree from facts on each of its nodes.
use Rattle.std.proofs.Common.{◌≡◌, ℕ, zero, suc, ◌+◌, ◌-◌, ◌<◌, ◌≤◌, List, [], ◌∷◌, length, get_or, refl, ap, ◌∙◌, arith}
use Rattle.cfn_model.specs.declared.step.Step.{Step}
use Rattle.cfn_model.specs.declared.step.Decision.{Decision}
use Rattle.cfn_model.specs.Tree as trees
use Rattle.cfn_proof.specs.declared.tree.NodeId.{NodeId}
use Rattle.cfn_proof.specs.declared.tree.End.{End}
use Rattle.cfn_proof.specs.declared.tree.End.TheVariants.{Free, Shut, Split}
use Rattle.cfn_proof.specs.declared.tree.Node.{Node}
use Rattle.cfn_proof.specs.Nodes.{node_at, with_children, trees_from, tree_at, IsLinked}

-- what a node's children are, where two ways of naming them agree on those behind it
with_children_ext : (block : List Step) (e : End) (low : ℕ) (f g : ℕ → trees.Tree) → ((d : Decision) (first second : NodeId) → e ≡ Split d first second → (low < first.number) × (low < second.number)) → ((i : ℕ) → low < i → f i ≡ g i) → with_children block e f ≡ with_children block e g
with_children_ext block Free low f g later same = refl
with_children_ext block Shut low f g later same = refl
with_children_ext block (Split d first second) low f g later same =
    let l = later d first second refl in
    ap (λ t. trees.Split block d t (f second.number)) (same first.number l.0)
    ∙ ap (λ t. trees.Split block d (g first.number) t) (same second.number l.1)

shifted : (base i : ℕ) (t : trees.Tree) (ts : List trees.Tree) → base < i → get_or ts (i - (base + 1)) (trees.Open []) ≡ get_or (t ∷ ts) (i - base) (trees.Open [])
shifted base i t ts h = let e : i - base ≡ suc (i - (base + 1)) = omega arith in rw e refl

-- each tree is made of the trees of its node's children
trees_get : (nodes : List Node) (base j : ℕ) → j < length nodes → ((d : Decision) (first second : NodeId) → (node_at nodes j).end ≡ Split d first second → (base + j < first.number) × (base + j < second.number)) → get_or (trees_from base nodes) j (trees.Open []) ≡ with_children (node_at nodes j).block (node_at nodes j).end (λ i. get_or (trees_from base nodes) (i - base) (trees.Open []))
trees_get [] base j h later = absurd (omega arith)
trees_get (node ∷ nodes) base zero h later =
    with_children_ext node.block node.end base _ _ (λ d first second e. let l = later d first second e in (omega (arith, l.0), omega (arith, l.1))) (λ i lt. shifted base i _ (trees_from (base + 1) nodes) lt)
trees_get (node ∷ nodes) base (suc j) h later =
    trees_get nodes (base + 1) j (omega arith) (λ d first second e. let l = later d first second e in (omega (arith, l.0), omega (arith, l.1)))
    ∙ with_children_ext (node_at nodes j).block (node_at nodes j).end base _ _ (λ d first second e. let l = later d first second e in (omega (arith, l.0), omega (arith, l.1))) (λ i lt. shifted base i _ (trees_from (base + 1) nodes) lt)

pub tree_at_is : (nodes : List Node) (i : ℕ) → IsLinked nodes → i < length nodes → tree_at nodes i ≡ with_children (node_at nodes i).block (node_at nodes i).end (tree_at nodes)
tree_at_is nodes i linked h =
    trees_get nodes 0 i h (λ d first second e. let family = linked.children i d first second h e in (omega (arith, family.first_behind), omega (arith, family.second_behind)))
    ∙ with_children_ext (node_at nodes i).block (node_at nodes i).end i _ _ (λ d first second e. let family = linked.children i d first second h e in (family.first_behind, family.second_behind)) (λ c lt. ap (λ n. get_or (trees_from 0 nodes) n (trees.Open [])) (omega arith))

-- induction from the last node to the first
falling : (n : ℕ) (Q : ℕ → Type 0) → ((i : ℕ) → i < n → ((j : ℕ) → i < j → j < n → Q j) → Q i) → (m i : ℕ) → n ≤ i + m → i < n → Q i
falling n Q step zero i far h = absurd (omega arith)
falling n Q step (suc m) i far h = step i h (λ j behind there. falling n Q step m j (omega arith) there)

pub from_last : (n : ℕ) (Q : ℕ → Type 0) → ((i : ℕ) → i < n → ((j : ℕ) → i < j → j < n → Q j) → Q i) → (i : ℕ) → i < n → Q i
from_last n Q step i h = falling n Q step n i (omega arith) h
