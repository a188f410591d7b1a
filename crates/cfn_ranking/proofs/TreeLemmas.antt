-- A node's tree is made of the trees of its children.
use Rattle.std.proofs.Common.{◌≡◌, ℕ, zero, suc, ◌+◌, ◌-◌, ◌<◌, ◌≤◌, List, [], ◌∷◌, length, get_or, refl, ap, ◌∙◌, arith}
use Rattle.std.specs.Prelude.{Option}
use Rattle.cfn_model.specs.declared.step.Step.{Step}
use Rattle.cfn_model.specs.declared.step.Decision.{Decision}
use Rattle.cfn_proof.specs.declared.tree.NodeId.{NodeId}
use Rattle.cfn_proof.specs.declared.tree.End.{End}
use Rattle.cfn_proof.specs.declared.tree.End.TheVariants.{Free, Shut, Split}
use Rattle.cfn_proof.specs.declared.tree.Node.{Node}
use Rattle.cfn_proof.specs.Nodes.{node_at, IsLinked}
use Rattle.cfn_best.specs.Tree as lists
use Rattle.cfn_best.specs.Tree.{ListTree}
use Rattle.cfn_ranking.specs.Trees.{with_listed, number_at, listed_from, listed_at}

-- what a node's children are, where two ways of naming them agree on those behind it
with_listed_ext : (block : List Step) (e : End) (number : Option ℕ) (low : ℕ) (f g : ℕ → ListTree) → ((d : Decision) (first second : NodeId) → e ≡ Split d first second → (low < first.number) × (low < second.number)) → ((i : ℕ) → low < i → f i ≡ g i) → with_listed block e number f ≡ with_listed block e number g
with_listed_ext block Free number low f g later same = refl
with_listed_ext block Shut number low f g later same = refl
with_listed_ext block (Split d first second) number low f g later same =
    let l = later d first second refl in
    ap (λ t. lists.Split block d t (f second.number)) (same first.number l.0)
    ∙ ap (λ t. lists.Split block d (g first.number) t) (same second.number l.1)

shifted : (base i : ℕ) (t : ListTree) (ts : List ListTree) → base < i → get_or ts (i - (base + 1)) (lists.Open []) ≡ get_or (t ∷ ts) (i - base) (lists.Open [])
shifted base i t ts h = let e : i - base ≡ suc (i - (base + 1)) = omega arith in rw e refl

-- each tree is made of the trees of its node's children
listed_get : (numbers : List (Option ℕ)) (nodes : List Node) (base j : ℕ) → j < length nodes → ((d : Decision) (first second : NodeId) → (node_at nodes j).end ≡ Split d first second → (base + j < first.number) × (base + j < second.number)) → get_or (listed_from numbers base nodes) j (lists.Open []) ≡ with_listed (node_at nodes j).block (node_at nodes j).end (number_at numbers (base + j)) (λ i. get_or (listed_from numbers base nodes) (i - base) (lists.Open []))
listed_get numbers [] base j h later = absurd (omega arith)
listed_get numbers (node ∷ nodes) base zero h later =
    with_listed_ext node.block node.end (number_at numbers base) base _ _ (λ d first second e. let l = later d first second e in (omega (arith, l.0), omega (arith, l.1))) (λ i lt. shifted base i _ (listed_from numbers (base + 1) nodes) lt)
    ∙ ap (λ n. with_listed node.block node.end (number_at numbers n) (λ i. get_or (listed_from numbers base (node ∷ nodes)) (i - base) (lists.Open []))) (omega arith)
listed_get numbers (node ∷ nodes) base (suc j) h later =
    listed_get numbers nodes (base + 1) j (omega arith) (λ d first second e. let l = later d first second e in (omega (arith, l.0), omega (arith, l.1)))
    ∙ with_listed_ext (node_at nodes j).block (node_at nodes j).end (number_at numbers (base + 1 + j)) base _ _ (λ d first second e. let l = later d first second e in (omega (arith, l.0), omega (arith, l.1))) (λ i lt. shifted base i _ (listed_from numbers (base + 1) nodes) lt)
    ∙ ap (λ n. with_listed (node_at nodes j).block (node_at nodes j).end (number_at numbers n) (λ i. get_or (listed_from numbers base (node ∷ nodes)) (i - base) (lists.Open []))) (omega arith)

pub listed_at_is : (nodes : List Node) (numbers : List (Option ℕ)) (i : ℕ) → IsLinked nodes → i < length nodes → listed_at nodes numbers i ≡ with_listed (node_at nodes i).block (node_at nodes i).end (number_at numbers i) (listed_at nodes numbers)
listed_at_is nodes numbers i linked h =
    listed_get numbers nodes 0 i h (λ d first second e. let family = linked.children i d first second h e in (omega (arith, family.first_behind), omega (arith, family.second_behind)))
    ∙ ap (λ n. with_listed (node_at nodes i).block (node_at nodes i).end (number_at numbers n) (λ c. get_or (listed_from numbers 0 nodes) (c - 0) (lists.Open []))) (omega arith)
    ∙ with_listed_ext (node_at nodes i).block (node_at nodes i).end (number_at numbers i) i _ _ (λ d first second e. let family = linked.children i d first second h e in (family.first_behind, family.second_behind)) (λ c lt. ap (λ n. get_or (listed_from numbers 0 nodes) n (lists.Open [])) (omega arith))

-- induction from the last node to the first
falling : (n : ℕ) (Q : ℕ → Type 0) → ((i : ℕ) → i < n → ((j : ℕ) → i < j → j < n → Q j) → Q i) → (m i : ℕ) → n ≤ i + m → i < n → Q i
falling n Q step zero i far h = absurd (omega arith)
falling n Q step (suc m) i far h = step i h (λ j behind there. falling n Q step m j (omega arith) there)

pub from_last : (n : ℕ) (Q : ℕ → Type 0) → ((i : ℕ) → i < n → ((j : ℕ) → i < j → j < n → Q j) → Q i) → (i : ℕ) → i < n → Q i
from_last n Q step i h = falling n Q step n i (omega arith) h
