-- Trees are ranked from the last node on.
use Rattle.std.proofs.Common.{◌≡◌, ℕ, ◌+◌, ◌-◌, ◌<◌, ◌≤◌, inl, inr, List, length, set, refl, sym, ap, ◌∙◌, subst, arith}
use Rattle.std.proofs.lemmas.Bool.{cases_eq}
use Rattle.std.proofs.lemmas.List.{get_or-set_same, get_or-set_other, length-set}
use Rattle.std.specs.Prelude.{not, nat_lt, ◌&&◌, ◌||◌}
use Rattle.cfn_model.specs.Tree as trees
use Rattle.cfn_proof.specs.declared.tree.End.{End}
use Rattle.cfn_proof.specs.declared.tree.End.TheVariants.{Free, Shut, Split}
use Rattle.cfn_proof.specs.declared.tree.Node.{Node}
use Rattle.cfn_proof.specs.Nodes.{node_at, tree_at, with_children, IsLinked}
use Rattle.cfn_proof.proofs.CallerLemmas.{tree_at_is}
use Rattle.cfn_mending.specs.Joining.{gives_way, height, is_below}
use Rattle.cfn_merge.specs.declared.rank.Rank.{Rank}
use Rattle.cfn_merge.specs.Ranking.{AreBelow, AreRanked, IsRank, RankedFrom, rank_at}

-- a rank says whether its tree gives way
pub yields : (r s : Rank) (x y : trees.Tree) → IsRank r x → IsRank s y → (is_below r.height s.height || (not (is_below s.height r.height) && nat_lt r.count s.count)) ≡ gives_way x y
yields r s x y a b =
    ap (λ h. is_below h s.height || (not (is_below s.height h) && nat_lt r.count s.count)) a.height
    ∙ ap (λ h. is_below (height x) h || (not (is_below h (height x)) && nat_lt r.count s.count)) b.height
    ∙ ap (λ n. is_below (height x) (height y) || (not (is_below (height y) (height x)) && nat_lt n s.count)) a.count
    ∙ ap (λ n. is_below (height x) (height y) || (not (is_below (height y) (height x)) && nat_lt (trees.count x) n)) b.count

-- the children of a node stand behind it
children_by : (nodes : List Node) (i : ℕ) (end : End) → IsLinked nodes → i < length nodes → (node_at nodes i).end ≡ end → AreBelow (length nodes) end
children_by nodes i Free linked there is = tt
children_by nodes i Shut linked there is = tt
children_by nodes i (Split d first second) linked there is = let f = linked.children i d first second there is in (f.first_there, f.second_there)

pub children_below : (nodes : List Node) (i : ℕ) → IsLinked nodes → i < length nodes → AreBelow (length nodes) (node_at nodes i).end
children_below nodes i linked there = children_by nodes i (node_at nodes i).end linked there refl

ranked_by : (nodes : List Node) (ranks : List Rank) (i : ℕ) (end : End) → IsLinked nodes → i < length nodes → (node_at nodes i).end ≡ end → RankedFrom nodes (i + 1) ranks → AreRanked ranks end (tree_at nodes)
ranked_by nodes ranks i Free linked there is behind = tt
ranked_by nodes ranks i Shut linked there is behind = tt
ranked_by nodes ranks i (Split d first second) linked there is behind =
    let f = linked.children i d first second there is in
    let a = f.first_behind in
    let b = f.second_behind in
    (behind.1 first.number (omega (arith, a)) f.first_there, behind.1 second.number (omega (arith, b)) f.second_there)

-- a node is ranked by its children
pub ranked_node : (nodes : List Node) (ranks : List Rank) (i : ℕ) (rank : Rank) (node : Node) → IsLinked nodes → i < length nodes → node ≡ node_at nodes i → RankedFrom nodes (i + 1) ranks →
    ((child : ℕ → trees.Tree) → AreRanked ranks node.end child → IsRank rank (with_children node.block node.end child)) → RankedFrom nodes i (set ranks i rank)
ranked_node nodes ranks i rank node linked there is behind ranked =
    let own : IsRank rank (tree_at nodes i) =
    subst (IsRank rank) (sym (tree_at_is nodes i linked there))
    (subst (λ (n : Node). AreRanked ranks n.end (tree_at nodes) → IsRank rank (with_children n.block n.end (tree_at nodes))) is (ranked (tree_at nodes)) (ranked_by nodes ranks i (node_at nodes i).end linked there refl behind)) in
    let long = behind.0 in (
      length-set ranks i rank ∙ behind.0,
      λ j low within. elim (cases_eq j i) [
        | inl at ↦ subst (λ m. IsRank (rank_at (set ranks i rank) m) (tree_at nodes m)) (sym at) (subst (λ r. IsRank r (tree_at nodes i)) (sym (get_or-set_same ranks i rank _ (omega (arith, there, long)))) own)
        | inr other ↦ subst (λ r. IsRank r (tree_at nodes j)) (sym (get_or-set_other ranks i j rank _ other)) (behind.1 j (omega (arith, low, other)) within)
      ],
    )

-- a loop that comes to the node before
module _ (nodes : List Node) (ranks seen : List Rank) (i : ℕ) (node : Node) (linked : IsLinked nodes) (some : 0 < i) (within : i ≤ length nodes) (same : seen ≡ ranks) (is : node ≡ node_at nodes (i - 1)) (behind : RankedFrom nodes i ranks) where
  there : i - 1 < length nodes
  there = omega (arith, some, within)

  pub below_before : AreBelow (length seen) node.end
  below_before =
      subst (λ n. AreBelow n node.end) (sym behind.0 ∙ ap length (sym same)) (subst (λ (n : Node). AreBelow (length nodes) n.end) (sym is) (children_below nodes (i - 1) linked there))

  pub ranked_before : (rank : Rank) → ((child : ℕ → trees.Tree) → AreRanked seen node.end child → IsRank rank (with_children node.block node.end child)) → RankedFrom nodes (i - 1) (set ranks (i - 1) rank)
  ranked_before rank ranked =
      let at : i ≡ i - 1 + 1 = omega (arith, some) in
      ranked_node nodes ranks (i - 1) rank node linked there is (subst (λ n. RankedFrom nodes n ranks) at behind) (subst (λ rs. (child : ℕ → trees.Tree) → AreRanked rs node.end child → IsRank rank (with_children node.block node.end child)) same ranked)
