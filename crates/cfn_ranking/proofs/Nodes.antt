-- What a node keeps where an open leaf is split, closed, or left open behind a block.
use Rattle.std.proofs.Common.{◌≡◌, ℕ, ◌+◌, ◌<◌, inl, inr, List, ◌∷◌, length, Some, sym, ap, ◌∙◌, subst, arith}
use Rattle.std.proofs.lemmas.Bool.{cases_eq, cases_lt}
use Rattle.cfn_model.specs.declared.step.Step.{Step}
use Rattle.cfn_model.specs.declared.step.Decision.{Decision}
use Rattle.cfn_model.specs.declared.step.Event.{Event}
use Rattle.cfn_model.specs.declared.step.Event.TheVariants.{Took, Refused}
use Rattle.cfn_model.specs.Steps.{after}
use Rattle.cfn_proof.specs.declared.tree.NodeId.{NodeId}
use Rattle.cfn_proof.specs.declared.tree.End.{End}
use Rattle.cfn_proof.specs.declared.tree.End.TheVariants.{Free, Shut, Split}
use Rattle.cfn_proof.specs.declared.tree.Node.{Node}
use Rattle.cfn_proof.specs.Nodes.{node_at, open_node, IsLinked, IsFree, Before, at_root, at_first, at_second, split_behind_at, split_end, close_at, leave_at}
use Rattle.cfn_proof.proofs.CallerLemmas.{before_close, before_split_behind, length-close_at, close_at-same, close_at-other, length-leave_at, leave_at-same, leave_at-other, length-split_behind_at, split_behind_at-same, split_behind_at-other, split_behind_at-first, split_behind_at-second}

-- an end is of one kind
pub free_split : {d : Decision} {first second : NodeId} {e : End} → e ≡ Free → e ≡ Split d first second → ⊥
free_split h k = cc

pub free_shut : {e : End} → e ≡ Free → e ≡ Shut → ⊥
free_shut h k = cc

-- what stands before a node stays where a leaf is left open
pub before_leave : (nodes : List Node) (i : ℕ) (block : List Step) (j : ℕ) (history : List Event) → i < length nodes → IsFree nodes i → Before (leave_at nodes i block) j history → Before nodes j history
before_leave nodes i block j history there free (at_root is_root is_empty) = at_root is_root is_empty
before_leave nodes i block j history there free (at_first parent d first second above within is before is_child is_history) =
    elim (cases_eq parent i) [
      | inl same ↦ absurd (free_split (ap (λ m. (node_at (leave_at nodes i block) m).end) same ∙ ap (λ (n : Node). n.end) (leave_at-same nodes i block there) ∙ free) is)
      | inr other ↦
          let e : node_at (leave_at nodes i block) parent ≡ node_at nodes parent = leave_at-other nodes i block there parent other in
          at_first parent d first second above (omega (arith, within, length-leave_at nodes i block there)) (subst (λ (n : Node). n.end ≡ Split d first second) e is) (before_leave nodes i block parent above there free before) is_child (is_history ∙ ap (λ (n : Node). Took d ∷ after n.block above) e)
    ]
before_leave nodes i block j history there free (at_second parent d first second above within is before is_child is_history) =
    elim (cases_eq parent i) [
      | inl same ↦ absurd (free_split (ap (λ m. (node_at (leave_at nodes i block) m).end) same ∙ ap (λ (n : Node). n.end) (leave_at-same nodes i block there) ∙ free) is)
      | inr other ↦
          let e : node_at (leave_at nodes i block) parent ≡ node_at nodes parent = leave_at-other nodes i block there parent other in
          at_second parent d first second above (omega (arith, within, length-leave_at nodes i block there)) (subst (λ (n : Node). n.end ≡ Split d first second) e is) (before_leave nodes i block parent above there free before) is_child (is_history ∙ ap (λ (n : Node). Refused d ∷ after n.block above) e)
    ]

-- a fact of nodes behind what stands before them
abbrev pub Each : (List Event → Node → Type 0) → List Node → Type 0
Each Has nodes = (j : ℕ) (history : List Event) → j < length nodes → Before nodes j history → Has history (node_at nodes j)

module _ (Has : List Event → Node → Type 0) (nodes : List Node) (i : ℕ) (block : List Step) (linked : IsLinked nodes) (there : i < length nodes) (free : IsFree nodes i) (each : Each Has nodes) where
  pub kept_by_close : ((history : List Event) → Before nodes i history → Has history (record (node_at nodes i) { block = block; end = Shut })) → Each Has (close_at nodes i block)
  kept_by_close at_leaf j history h before =
      let new = close_at nodes i block in
      let was = before_close nodes i block j history linked there free before in
      elim (cases_eq j i) [
        | inl leaf ↦ subst (λ m. Has history (node_at new m)) (sym leaf) (subst (λ n. Has history n) (sym (close_at-same nodes i block there)) (at_leaf history (subst (λ m. Before nodes m history) leaf was)))
        | inr other ↦ subst (λ n. Has history n) (sym (close_at-other nodes i block there j other)) (each j history (omega (arith, h, length-close_at nodes i block there)) was)
      ]

  pub kept_by_leave : ((history : List Event) → Before nodes i history → Has history (record (node_at nodes i) { block = block })) → Each Has (leave_at nodes i block)
  kept_by_leave at_leaf j history h before =
      let new = leave_at nodes i block in
      let was = before_leave nodes i block j history there free before in
      elim (cases_eq j i) [
        | inl leaf ↦ subst (λ m. Has history (node_at new m)) (sym leaf) (subst (λ n. Has history n) (sym (leave_at-same nodes i block there)) (at_leaf history (subst (λ m. Before nodes m history) leaf was)))
        | inr other ↦ subst (λ n. Has history n) (sym (leave_at-other nodes i block there j other)) (each j history (omega (arith, h, length-leave_at nodes i block there)) was)
      ]

  pub kept_by_split : (d : Decision) → ((history : List Event) → Before nodes i history → Has history (record (node_at nodes i) { block = block; end = split_end d (length nodes) })) → ((above : List Event) → Before nodes i above → Has (Took d ∷ after block above) (open_node (Some (record { number = i })))) → ((above : List Event) → Before nodes i above → Has (Refused d ∷ after block above) (open_node (Some (record { number = i })))) → Each Has (split_behind_at nodes i block d)
  kept_by_split d at_leaf at_took at_refused j history h before =
      let new = split_behind_at nodes i block d in
      let ways = before_split_behind nodes i block d j history linked there free before in
      elim (cases_lt j (length nodes)) [
        | inl old ↦ elim (cases_eq j i) [
          | inl leaf ↦ subst (λ m. Has history (node_at new m)) (sym leaf) (subst (λ n. Has history n) (sym (split_behind_at-same nodes i block d there)) (at_leaf history (subst (λ m. Before nodes m history) leaf (ways.0 old))))
          | inr other ↦ subst (λ n. Has history n) (sym (split_behind_at-other nodes i block d there j old other)) (each j history old (ways.0 old))
        ]
        | inr late ↦ elim (cases_eq j (length nodes)) [
          | inl first ↦
              let way = ways.1 first in
              subst (λ m. Has history (node_at new m)) (sym first) (subst (λ n. Has history n) (sym (split_behind_at-first nodes i block d there)) (subst (λ g. Has g (open_node (Some (record { number = i })))) (sym way.is) (at_took way.above way.before)))
          | inr other ↦
              let second : j ≡ length nodes + 1 = omega (arith, h, late, other, length-split_behind_at nodes i block d there) in
              let way = ways.2 second in
              subst (λ m. Has history (node_at new m)) (sym second) (subst (λ n. Has history n) (sym (split_behind_at-second nodes i block d there)) (subst (λ g. Has g (open_node (Some (record { number = i })))) (sym way.is) (at_refused way.above way.before)))
        ]
      ]
