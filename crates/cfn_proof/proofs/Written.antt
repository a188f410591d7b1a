-- What the code of a tree's methods leaves in its list of nodes.
use Rattle.std.proofs.Common.{◌≡◌, ℕ, zero, suc, ◌+◌, ◌-◌, ◌<◌, ◌≤◌, ◌^◌, inl, inr, List, [], ◌∷◌, ◌++◌, length, get_or, set, Some, None, refl, sym, ap, ◌∙◌, subst, arith}
use Rattle.std.proofs.lemmas.List.{get_or_read}
use Rattle.cfn_model.specs.declared.step.Step.{Step}
use Rattle.cfn_model.specs.declared.step.Decision.{Decision}
use Rattle.cfn_proof.specs.declared.tree.End.{End}
use Rattle.cfn_proof.specs.declared.tree.End.TheVariants.{Free, Shut, Split}
use Rattle.cfn_proof.specs.declared.tree.NodeId.{NodeId}
use Rattle.cfn_proof.specs.declared.tree.Node.{Node}
use Rattle.std.specs.List.{AllByRecursion}
use Rattle.std.proofs.lemmas.Bool.{cases_eq, cases_lt}
use Rattle.cfn_model.specs.Text.{IsSpelledStep, IsSpelledDecision}
use Rattle.cfn_proof.specs.Nodes.{IsFree, IsLinked, IsTree, IsSpelledEnd, node_at, open_node, split_at, split_behind_at, split_end, close_at, leave_at}
use Rattle.cfn_proof.proofs.Growth.{Changed, Fresh, fresh_by_split, fresh_by_close, changed_by_split, changed_by_close, linked_by_split, linked_by_close, fresh_by_leave, changed_by_leave, linked_by_leave, split_behind_at-same, split_behind_at-behind, close_at-same, length-close_at, leave_at-same, length-leave_at}

-- a node that was read, with another block and end
read_is : (inside : List Node) (i : ℕ) (read : Node) → i < length inside → read ≡ get_or inside i read → read ≡ node_at inside i
read_is inside i read there value = get_or_read inside i read there value (open_node None)

pub closed_is : (inside now : List Node) (i : ℕ) (read : Node) (block : List Step) → inside ≡ now → i < length now → read ≡ get_or inside i read → set inside i (record { parent = read.parent; block = block; end = Shut }) ≡ close_at now i block
closed_is inside now i read block same there value =
    let there' : i < length inside = omega (arith, ap length same) in
    ap (λ (n : Node). set inside i (record { parent = n.parent; block = block; end = Shut })) (read_is inside i read there' value)
    ∙ ap (λ m. close_at m i block) same

pub shut_is : (inside now : List Node) (i : ℕ) (read : Node) → inside ≡ now → i < length now → read ≡ get_or inside i read → set inside i (record { parent = read.parent; block = read.block; end = Shut }) ≡ close_at now i (node_at now i).block
shut_is inside now i read same there value =
    let there' : i < length inside = omega (arith, ap length same) in
    closed_is inside now i read read.block same there value ∙ ap (λ (n : Node). close_at now i n.block) (read_is inside i read there' value) ∙ ap (λ m. close_at now i (node_at m i).block) same

pub left_is : (inside now : List Node) (i : ℕ) (read : Node) (block : List Step) → inside ≡ now → i < length now → read ≡ get_or inside i read → set inside i (record { parent = read.parent; block = block; end = read.end }) ≡ leave_at now i block
left_is inside now i read block same there value =
    let there' : i < length inside = omega (arith, ap length same) in
    ap (λ (n : Node). set inside i (record { parent = n.parent; block = block; end = n.end })) (read_is inside i read there' value)
    ∙ ap (λ m. leave_at m i block) same

-- the end that the code makes
end_is : (d : Decision) (n : ℕ) (one two : NodeId) → one.number ≡ n → two.number ≡ n + 1 → Split d one two ≡ split_end d n
end_is d n one two first second =
    ap (λ k. Split d (record { number = k }) two) first ∙ ap (λ k. Split d (record { number = n }) (record { number = k })) second

pub split_behind_is : (inside now new : List Node) (i : ℕ) (block : List Step) (d : Decision) (e : End) (one two : NodeId) (read : Node) → inside ≡ now → i < length now → read ≡ get_or inside i read → one.number ≡ length now → two.number ≡ length now + 1 → e ≡ Split d one two → new ≡ set inside i (record { parent = read.parent; block = block; end = e }) ++ open_node (Some (record { number = i })) ∷ open_node (Some (record { number = i })) ∷ [] → new ≡ split_behind_at now i block d
split_behind_is inside now new i block d e one two read same there value is_first is_second is_end is =
    let there' : i < length inside = omega (arith, ap length same) in
    let twins : List Node = open_node (Some (record { number = i })) ∷ open_node (Some (record { number = i })) ∷ [] in
    is
    ∙ ap (λ c. set inside i (record { parent = read.parent; block = block; end = c }) ++ twins) (is_end ∙ end_is d (length now) one two is_first is_second)
    ∙ ap (λ (r : Node). set inside i (record { parent = r.parent; block = block; end = split_end d (length now) }) ++ twins) (read_is inside i read there' value)
    ∙ ap (λ l. set l i (record { parent = (node_at l i).parent; block = block; end = split_end d (length now) }) ++ twins) same

pub split_is : (inside now new : List Node) (i : ℕ) (d : Decision) (e : End) (one two : NodeId) (read : Node) → inside ≡ now → i < length now → read ≡ get_or inside i read → one.number ≡ length now → two.number ≡ length now + 1 → e ≡ Split d one two → new ≡ set inside i (record { parent = read.parent; block = read.block; end = e }) ++ open_node (Some (record { number = i })) ∷ open_node (Some (record { number = i })) ∷ [] → new ≡ split_at now i d
split_is inside now new i d e one two read same there value is_first is_second is_end is =
    let there' : i < length inside = omega (arith, ap length same) in
    split_behind_is inside now new i read.block d e one two read same there value is_first is_second is_end is
    ∙ ap (λ (r : Node). split_behind_at now i r.block d) (read_is inside i read there' value)
    ∙ ap (λ l. split_behind_at now i (node_at l i).block d) same

two_empty : (o : Node) → o.block ≡ [] → (m : ℕ) → (node_at (o ∷ o ∷ []) m).block ≡ []
two_empty o h zero = h
two_empty o h (suc zero) = h
two_empty o h (suc (suc m)) = refl

-- a node with a spelled block and end in place of another leaves spelled nodes
module _ (nodes new : List Node) (i : ℕ) (tree : IsTree nodes) (changed : Changed nodes new i) (fresh : Fresh nodes new) (linked : IsLinked new) (blocks : (j : ℕ) → length nodes ≤ j → (node_at new j).block ≡ []) (block : AllByRecursion IsSpelledStep (node_at new i).block) (end : IsSpelledEnd (node_at new i).end) where
  pub tree_kept : IsTree new
  tree_kept = record {
    linked = linked;
    blocks = λ j there. elim (cases_eq j i) [
      | inl same ↦ subst (λ m. AllByRecursion IsSpelledStep (node_at new m).block) (sym same) block
      | inr other ↦ elim (cases_lt j (length nodes)) [
        | inl old ↦ subst (λ (n : Node). AllByRecursion IsSpelledStep n.block) (sym (changed.others j old other)) (tree.blocks j old)
        | inr late ↦ subst (λ b. AllByRecursion IsSpelledStep b) (sym (blocks j late)) tt
      ]
    ];
    ends = λ j there. elim (cases_eq j i) [
      | inl same ↦ subst (λ m. IsSpelledEnd (node_at new m).end) (sym same) end
      | inr other ↦ elim (cases_lt j (length nodes)) [
        | inl old ↦ subst (λ (n : Node). IsSpelledEnd n.end) (sym (changed.others j old other)) (tree.ends j old)
        | inr late ↦ subst (λ e. IsSpelledEnd e) (sym (fresh j late)) tt
      ]
    ];
  }

pub tree_by_split : (nodes : List Node) (i : ℕ) (block : List Step) (d : Decision) → IsTree nodes → i < length nodes → IsFree nodes i → length nodes + 2 ≤ 2 ^ 32 → AllByRecursion IsSpelledStep block → IsSpelledDecision d → IsTree (split_behind_at nodes i block d)
tree_by_split nodes i block d tree there free room steps spelled =
    tree_kept nodes (split_behind_at nodes i block d) i tree (changed_by_split nodes i block d there free) (fresh_by_split nodes i block d there) (linked_by_split nodes i block d tree.linked there free room)
    (λ j late. ap (λ (n : Node). n.block) (split_behind_at-behind nodes i block d there j late) ∙ two_empty _ refl (j - length nodes))
    (subst (λ (n : Node). AllByRecursion IsSpelledStep n.block) (sym (split_behind_at-same nodes i block d there)) steps)
    (subst (λ (n : Node). IsSpelledEnd n.end) (sym (split_behind_at-same nodes i block d there)) spelled)

past_empty : (nodes : List Node) (j : ℕ) → length nodes ≤ j → (node_at nodes j).block ≡ []
past_empty [] j h = refl
past_empty (node ∷ nodes) zero h = absurd (omega arith)
past_empty (node ∷ nodes) (suc j) h = past_empty nodes j (omega arith)

pub tree_by_close : (nodes : List Node) (i : ℕ) (block : List Step) → IsTree nodes → i < length nodes → IsFree nodes i → AllByRecursion IsSpelledStep block → IsTree (close_at nodes i block)
tree_by_close nodes i block tree there free spelled =
    tree_kept nodes (close_at nodes i block) i tree (changed_by_close nodes i block there free) (fresh_by_close nodes i block there) (linked_by_close nodes i block tree.linked there free)
    (λ j late. past_empty (close_at nodes i block) j (omega (arith, length-close_at nodes i block there)))
    (subst (λ (n : Node). AllByRecursion IsSpelledStep n.block) (sym (close_at-same nodes i block there)) spelled)
    (subst (λ (n : Node). IsSpelledEnd n.end) (sym (close_at-same nodes i block there)) tt)

pub tree_by_leave : (nodes : List Node) (i : ℕ) (block : List Step) → IsTree nodes → i < length nodes → IsFree nodes i → AllByRecursion IsSpelledStep block → IsTree (leave_at nodes i block)
tree_by_leave nodes i block tree there free spelled =
    tree_kept nodes (leave_at nodes i block) i tree (changed_by_leave nodes i block there free) (fresh_by_leave nodes i block there) (linked_by_leave nodes i block tree.linked there free)
    (λ j late. past_empty (leave_at nodes i block) j (omega (arith, length-leave_at nodes i block there)))
    (subst (λ (n : Node). AllByRecursion IsSpelledStep n.block) (sym (leave_at-same nodes i block there)) spelled)
    (subst (λ e. IsSpelledEnd e) (sym (ap (λ (n : Node). n.end) (leave_at-same nodes i block there) ∙ free)) tt)

pub left_tree : (inside now : List Node) (i : ℕ) (read : Node) (block : List Step) → inside ≡ now → IsTree inside → i < length now → IsFree now i → read ≡ get_or inside i read → AllByRecursion IsSpelledStep block → IsTree (set inside i (record { parent = read.parent; block = block; end = read.end }))
left_tree inside now i read block same tree there free value spelled =
    subst (λ m. IsTree m) (sym (left_is inside now i read block same there value)) (tree_by_leave now i block (subst (λ m. IsTree m) same tree) there free spelled)

pub closed_tree : (inside now : List Node) (i : ℕ) (read : Node) (block : List Step) → inside ≡ now → IsTree inside → i < length now → IsFree now i → read ≡ get_or inside i read → AllByRecursion IsSpelledStep block → IsTree (set inside i (record { parent = read.parent; block = block; end = Shut }))
closed_tree inside now i read block same tree there free value spelled =
    subst (λ m. IsTree m) (sym (closed_is inside now i read block same there value)) (tree_by_close now i block (subst (λ m. IsTree m) same tree) there free spelled)

pub shut_tree : (inside now : List Node) (i : ℕ) (read : Node) → inside ≡ now → IsTree inside → i < length now → IsFree now i → read ≡ get_or inside i read → IsTree (set inside i (record { parent = read.parent; block = read.block; end = Shut }))
shut_tree inside now i read same tree there free value =
    let there' : i < length inside = omega (arith, ap length same) in
    closed_tree inside now i read read.block same tree there free value (subst (λ (n : Node). AllByRecursion IsSpelledStep n.block) (sym (read_is inside i read there' value)) (tree.blocks i there'))

pub split_behind_tree : (inside now new : List Node) (i : ℕ) (block : List Step) (d : Decision) → inside ≡ now → IsTree inside → i < length now → IsFree now i → length now + 2 ≤ 2 ^ 32 → AllByRecursion IsSpelledStep block → IsSpelledDecision d → new ≡ split_behind_at now i block d → IsTree new
split_behind_tree inside now new i block d same tree there free room steps spelled is = subst (λ m. IsTree m) (sym is) (tree_by_split now i block d (subst (λ m. IsTree m) same tree) there free room steps spelled)

pub split_tree : (inside now new : List Node) (i : ℕ) (d : Decision) → inside ≡ now → IsTree inside → i < length now → IsFree now i → length now + 2 ≤ 2 ^ 32 → IsSpelledDecision d → new ≡ split_at now i d → IsTree new
split_tree inside now new i d same tree there free room spelled = split_behind_tree inside now new i (node_at now i).block d same tree there free room ((subst (λ m. IsTree m) same tree).blocks i there) spelled

pub one_open : IsTree (open_node None ∷ [])
one_open = record {
  linked = record {
    some = omega arith;
    few = omega arith;
    root = refl;
    only_root = λ i h none. omega arith;
    children = λ i d first second h is. absurd (only_open i d first second is);
    parents = λ i parent h is. absurd (no_parents i parent is);
  };
  blocks = λ i h. subst (λ b. AllByRecursion IsSpelledStep b) (sym (no_steps i)) tt;
  ends = λ i h. subst (λ e. IsSpelledEnd e) (sym (all_free i)) tt;
}
  where
    no_steps : (i : ℕ) → (node_at (open_node None ∷ []) i).block ≡ []
    no_steps zero = refl
    no_steps (suc i) = refl

    all_free : (i : ℕ) → (node_at (open_node None ∷ []) i).end ≡ Free
    all_free zero = refl
    all_free (suc i) = refl

    only_open : (i : ℕ) (d : Decision) (first second : NodeId) → (node_at (open_node None ∷ []) i).end ≡ Split d first second → ⊥
    only_open zero d first second e = cc
    only_open (suc i) d first second e = cc

    no_parents : (i : ℕ) (parent : NodeId) → (node_at (open_node None ∷ []) i).parent ≡ Some parent → ⊥
    no_parents zero parent e = cc
    no_parents (suc i) parent e = cc
