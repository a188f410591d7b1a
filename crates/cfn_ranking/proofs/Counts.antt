-- A leaf that is left open behind a block changes no count of the tree.
use Rattle.std.proofs.Common.{◌≡◌, ℕ, zero, suc, ◌+◌, ◌<◌, ◌≤◌, inl, inr, List, length, refl, sym, ap, ◌∙◌, arith}
use Rattle.std.proofs.lemmas.Bool.{cases_eq}
use Rattle.cfn_model.specs.declared.step.Step.{Step}
use Rattle.cfn_model.specs.declared.step.Decision.{Decision}
use Rattle.cfn_model.specs.Tree as trees
use Rattle.cfn_model.specs.Tree.{count, splits}
use Rattle.cfn_proof.specs.declared.tree.End.{End}
use Rattle.cfn_proof.specs.declared.tree.End.TheVariants.{Free, Shut, Split}
use Rattle.cfn_proof.specs.declared.tree.Node.{Node}
use Rattle.cfn_proof.specs.Nodes.{node_at, tree_at, tree_of, with_children, IsLinked, IsFree, leave_at}
use Rattle.cfn_proof.proofs.CallerLemmas.{tree_at_is, length-leave_at, leave_at-same, leave_at-other}

falling : (n : ℕ) (Q : ℕ → Type 0) → ((i : ℕ) → i < n → ((j : ℕ) → i < j → j < n → Q j) → Q i) → (m i : ℕ) → n ≤ i + m → i < n → Q i
falling n Q step zero i far h = absurd (omega (arith, far, h))
falling n Q step (suc m) i far h = step i h (λ j behind there. falling n Q step m j (omega (arith, far, behind)) there)

module _ (f : trees.Tree → ℕ) (at_open : (b c : List Step) → f (trees.Open b) ≡ f (trees.Open c)) (at_split : (b : List Step) (d : Decision) (x y z w : trees.Tree) → f x ≡ f z → f y ≡ f w → f (trees.Split b d x y) ≡ f (trees.Split b d z w)) (nodes : List Node) (i : ℕ) (block : List Step) (linked : IsLinked nodes) (linked_new : IsLinked (leave_at nodes i block)) (there : i < length nodes) (free : IsFree nodes i) where
  same_end : (b : List Step) (e : End) (j : ℕ) → j < length nodes → (node_at nodes j).end ≡ e → ((k : ℕ) → j < k → k < length nodes → f (tree_at (leave_at nodes i block) k) ≡ f (tree_at nodes k)) → f (with_children b e (tree_at (leave_at nodes i block))) ≡ f (with_children b e (tree_at nodes))
  same_end b Free j within is later = refl
  same_end b Shut j within is later = refl
  same_end b (Split d first second) j within is later =
      let family = linked.children j d first second within is in
      at_split b d (tree_at (leave_at nodes i block) first.number) (tree_at (leave_at nodes i block) second.number) (tree_at nodes first.number) (tree_at nodes second.number) (later first.number family.first_behind family.first_there) (later second.number family.second_behind family.second_there)

  same_at : (j : ℕ) → j < length nodes → ((k : ℕ) → j < k → k < length nodes → f (tree_at (leave_at nodes i block) k) ≡ f (tree_at nodes k)) → f (tree_at (leave_at nodes i block) j) ≡ f (tree_at nodes j)
  same_at j within later =
      let new = leave_at nodes i block in
      let now = ap f (tree_at_is new j linked_new (omega (arith, within, length-leave_at nodes i block there))) in
      let was = ap f (tree_at_is nodes j linked within) in
      elim (cases_eq j i) [
        | inl leaf ↦
            let is_free : (node_at nodes j).end ≡ Free = ap (λ m. (node_at nodes m).end) leaf ∙ free in
            let still_free : (node_at new j).end ≡ Free = ap (λ m. (node_at new m).end) leaf ∙ ap (λ (n : Node). n.end) (leave_at-same nodes i block there) ∙ free in
            now ∙ ap (λ e. f (with_children (node_at new j).block e (tree_at new))) still_free
            ∙ at_open (node_at new j).block (node_at nodes j).block
            ∙ sym (was ∙ ap (λ e. f (with_children (node_at nodes j).block e (tree_at nodes))) is_free)
        | inr other ↦
            now ∙ ap (λ (n : Node). f (with_children n.block n.end (tree_at new))) (leave_at-other nodes i block there j other)
            ∙ same_end (node_at nodes j).block (node_at nodes j).end j within refl later ∙ sym was
      ]

  pub same_whole : f (tree_of (leave_at nodes i block)) ≡ f (tree_of nodes)
  same_whole = falling (length nodes) (λ j. f (tree_at (leave_at nodes i block) j) ≡ f (tree_at nodes j)) same_at (length nodes) 0 (omega arith) linked.some

pub count_leave : (nodes : List Node) (i : ℕ) (block : List Step) → IsLinked nodes → IsLinked (leave_at nodes i block) → i < length nodes → IsFree nodes i → count (tree_of (leave_at nodes i block)) ≡ count (tree_of nodes)
count_leave nodes i block linked linked_new there free = same_whole count (λ b c. refl) (λ b d x y z w one two. omega (arith, one, two)) nodes i block linked linked_new there free

pub splits_leave : (nodes : List Node) (i : ℕ) (block : List Step) → IsLinked nodes → IsLinked (leave_at nodes i block) → i < length nodes → IsFree nodes i → splits (tree_of (leave_at nodes i block)) ≡ splits (tree_of nodes)
splits_leave nodes i block linked linked_new there free = same_whole splits (λ b c. refl) (λ b d x y z w one two. omega (arith, one, two)) nodes i block linked linked_new there free
