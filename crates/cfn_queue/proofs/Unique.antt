-- A list has one least leaf.
use Rattle.std.proofs.Common.{◌≡◌, inl, inr, List, ap, ◌∙◌, subst, arith}
use Rattle.std.specs.Prelude.{All, Contains}
use Rattle.cfn_queue.specs.declared.list.OpenLeaf.{OpenLeaf}
use Rattle.cfn_queue.specs.Listing.{IsBefore, IsLeast}

same : (a b : OpenLeaf) → a.floor ≡ b.floor → a.leaf ≡ b.leaf → a ≡ b
same a b floor leaf = ap (λ f. record { floor = f; leaf = a.leaf }) floor ∙ ap (λ n. record { floor = b.floor; leaf = n }) leaf

each_before : (a b : OpenLeaf) → IsBefore a b → IsBefore b a → a ≡ b
each_before a b (inl less) (inl more) = absurd (omega (arith, less, more))
each_before a b (inl less) (inr more) = absurd (omega (arith, less, more.0))
each_before a b (inr less) (inl more) = absurd (omega (arith, less.0, more))
each_before a b (inr less) (inr more) = same a b less.0 (omega (arith, less.1, more.1))

holds_there : (P : OpenLeaf → Type 0) (leaves : List OpenLeaf) (a : OpenLeaf) → Contains leaves a → All P leaves → P a
holds_there P leaves a there all = subst P there.2 (all there.0 a there.1)

pub least_once : (leaves : List OpenLeaf) (a b : OpenLeaf) → IsLeast leaves a → IsLeast leaves b → a ≡ b
least_once leaves a b one two = each_before a b (holds_there (IsBefore a) leaves b two.there one.first) (holds_there (IsBefore b) leaves a one.there two.first)
