-- A split behind a block keeps valid and strict nodes.
use Rattle.std.proofs.Common.{◌≡◌, ℕ, ◌+◌, ◌<◌, inl, inr, List, ◌++◌, length, Some, subst, sym, arith}
use Rattle.std.proofs.lemmas.Bool.{cases_eq, cases_lt}
use Rattle.cfn_model.specs.declared.step.Step.{Step}
use Rattle.cfn_model.specs.declared.step.Decision.{Decision}
use Rattle.cfn_model.specs.declared.step.Event.{Event}
use Rattle.cfn_proof.specs.declared.tree.Node.{Node}
use Rattle.cfn_proof.specs.Nodes.{node_at, open_node, IsLinked, IsFree, Before, split_behind_at, split_end}
use Rattle.cfn_proof.specs.Local.{ValidNode, StrictNode, ValidSplitBehindLaw, StrictSplitBehindLaw, ValidBehindSplitLaw, StrictBehindSplitLaw}
use Rattle.cfn_proof.proofs.Growth.{length-split_behind_at, split_behind_at-same, split_behind_at-other, split_behind_at-first, split_behind_at-second}
use Rattle.cfn_proof.proofs.Histories.{before_split_behind}

-- what each node has after what stands before it, where a leaf is split behind a block
module _ (Has : List Event → Node → Type 0) (nodes : List Node) (i : ℕ) (block : List Step) (d : Decision) (linked : IsLinked nodes) (there : i < length nodes) (free : IsFree nodes i) where
  pub kept : ((j : ℕ) (history : List Event) → j < length nodes → Before nodes j history → Has history (node_at nodes j)) → ((history : List Event) → Before nodes i history → Has history (record (node_at nodes i) { block = block; end = split_end d (length nodes) })) → ((history : List Event) → Has history (open_node (Some (record { number = i })))) → (j : ℕ) (history : List Event) → j < length (split_behind_at nodes i block d) → Before (split_behind_at nodes i block d) j history → Has history (node_at (split_behind_at nodes i block d) j)
  kept each at_leaf at_child j history h before =
      let new = split_behind_at nodes i block d in
      let ways = before_split_behind nodes i block d j history linked there free before in
      elim (cases_lt j (length nodes)) [
        | inl old ↦ elim (cases_eq j i) [
          | inl leaf ↦ subst (λ m. Has history (node_at new m)) (sym leaf) (subst (λ n. Has history n) (sym (split_behind_at-same nodes i block d there)) (at_leaf history (subst (λ m. Before nodes m history) leaf (ways.0 old))))
          | inr other ↦ subst (λ n. Has history n) (sym (split_behind_at-other nodes i block d there j old other)) (each j history old (ways.0 old))
        ]
        | inr late ↦ elim (cases_eq j (length nodes)) [
          | inl first ↦ subst (λ m. Has history (node_at new m)) (sym first) (subst (λ n. Has history n) (sym (split_behind_at-first nodes i block d there)) (at_child history))
          | inr other ↦
              (let second : j ≡ length nodes + 1 = omega (arith, length-split_behind_at nodes i block d there) in
              subst (λ m. Has history (node_at new m)) (sym second) (subst (λ n. Has history n) (sym (split_behind_at-second nodes i block d there)) (at_child history)))
        ]
      ]

pub valid_split_behind : ValidSplitBehindLaw
valid_split_behind P nodes k i block d linked there free valid runs decision = record {
  each = kept (λ history n. ValidNode P history n.block n.end k) nodes i block d linked there free valid.each (λ history before. (runs history before, decision)) (λ history. tt);
}

pub strict_split_behind : StrictSplitBehindLaw
strict_split_behind P nodes i block d linked there free strict splits = record {
  each = kept (λ history n. StrictNode P history n.block n.end) nodes i block d linked there free strict.each splits (λ history. tt);
}

-- the same behind a base
pub valid_behind_split : ValidBehindSplitLaw
valid_behind_split P base nodes k i block d linked there free valid runs decision = record {
  each = kept (λ history n. ValidNode P (history ++ base) n.block n.end k) nodes i block d linked there free valid.each (λ history before. (runs history before, decision)) (λ history. tt);
}

pub strict_behind_split : StrictBehindSplitLaw
strict_behind_split P base nodes i block d linked there free strict splits = record {
  each = kept (λ history n. StrictNode P (history ++ base) n.block n.end) nodes i block d linked there free strict.each splits (λ history. tt);
}
