-- A ranking at the beginning: one open leaf, and no assignment.
use Rattle.std.proofs.Common.{◌≡◌, ℕ, zero, suc, ◌<◌, ◌≤◌, List, [], ◌∷◌, Option, None, Some, refl, sym, ap, ◌∙◌, subst, arith}
use Rattle.cfn_model.specs.declared.step.Event.{Event}
use Rattle.cfn_model.specs.Network.{Network}
use Rattle.cfn_model.specs.Certificate.{Solution}
use Rattle.cfn_model.specs.Sums.{floor}
use Rattle.cfn_model.specs.Paths.{HasSmallCosts, TameBlock}
use Rattle.cfn_proof.specs.declared.tree.NodeId.{NodeId}
use Rattle.cfn_proof.specs.declared.tree.Node.{Node}
use Rattle.cfn_proof.specs.Nodes.{node_at, open_node, IsLinked, Before, at_root, at_first, at_second}
use Rattle.cfn_proof.specs.Local.{StrictNode, ValidNode}
use Rattle.cfn_ranking.specs.Trees.{number_at}
use Rattle.cfn_ranking.specs.Ranked.{Ranked, IsRanked, IsToExpand}
use Rattle.cfn_ranking.proofs.Nodes.{free_split}
use Rattle.cfn_ranking.proofs.Keeping.{closed_waits}
use Rattle.cfn_ranking.proofs.Entries.{open_threshold}

abbrev pub root_nodes : List Node
root_nodes = open_node None ∷ []

abbrev pub at_start : ℕ → ℕ → ℕ → Ranked
at_start low n upper = record { nodes = root_nodes; floors = low ∷ []; numbers = None ∷ []; list = []; leaves = []; count = n; threshold = upper; spent = 0 }

-- nothing stands before the root
nothing_before : (i : ℕ) (history : List Event) → Before root_nodes i history → history ≡ []
nothing_before i history (at_root is_root is_empty) = is_empty
nothing_before i history (at_first zero d first second above there is before is_child is_history) = absurd (free_split refl is)
nothing_before i history (at_first (suc p) d first second above there is before is_child is_history) = absurd (omega (arith, there))
nothing_before i history (at_second zero d first second above there is before is_child is_history) = absurd (free_split refl is)
nothing_before i history (at_second (suc p) d first second above there is before is_child is_history) = absurd (omega (arith, there))

the_root : (i : ℕ) → i < 1 → i ≡ 0
the_root i h = omega (arith, h)

no_number : (i j : ℕ) → number_at (None ∷ []) i ≡ Some j → ⊥
no_number zero j is = closed_waits refl is
no_number (suc i) j is = closed_waits refl is

pub root_ranked : (P : Network) (low n : ℕ) → IsLinked root_nodes → 1 ≤ n → HasSmallCosts P [] → low ≡ floor P [] → IsRanked P (at_start low n P.upper)
root_ranked P low n linked some small is = record {
  kept = record {
    linked = linked;
    floors = refl;
    numbers = refl;
    waiting = λ i waits. subst (IsToExpand P (at_start low n P.upper)) (sym (the_root i waits.there)) (record { empty = refl; floor_is = λ history before. is ∙ ap (floor P) (sym (nothing_before 0 history before)) });
    listed = λ i j there free is_number. absurd (no_number i j is_number);
    valid = record { each = λ i history there before. subst (λ k. ValidNode P history (node_at root_nodes k).block (node_at root_nodes k).end P.upper) (sym (the_root i there)) tt };
    strict = record { each = λ i history there before. subst (λ k. StrictNode P history (node_at root_nodes k).block (node_at root_nodes k).end) (sym (the_root i there)) tt };
    tame = record { each = λ i history there before. subst (λ k. TameBlock P history (node_at root_nodes k).block) (sym (the_root i there)) (subst (HasSmallCosts P) (sym (nothing_before i history before)) small) };
    leaves = tt;
    solutions = tt;
    ordered = tt;
    within = tt;
    below = omega arith;
    some = some;
    few = omega arith;
    expanded = omega arith;
    counted = omega arith;
  };
  threshold_is = sym (open_threshold P.upper n [] (λ none. let z : 0 ≡ n = none in omega (arith, z, some)));
}

pub root_is : (P : Network) (low n : ℕ) (nodes : List Node) (floors : List ℕ) (numbers : List (Option ℕ)) (list : List Solution) (leaves : List NodeId) (upper : ℕ) → nodes ≡ root_nodes → floors ≡ low ∷ [] → numbers ≡ None ∷ [] → list ≡ [] → leaves ≡ [] → upper ≡ P.upper → IsRanked P (at_start low n P.upper) → IsRanked P (record { nodes = nodes; floors = floors; numbers = numbers; list = list; leaves = leaves; count = n; threshold = upper; spent = 0 })
root_is P low n nodes floors numbers list leaves upper a b c d e f ranked =
    subst (λ x. IsRanked P (record { nodes = x; floors = floors; numbers = numbers; list = list; leaves = leaves; count = n; threshold = upper; spent = 0 })) (sym a)
    (subst (λ x. IsRanked P (record { nodes = root_nodes; floors = x; numbers = numbers; list = list; leaves = leaves; count = n; threshold = upper; spent = 0 })) (sym b)
    (subst (λ x. IsRanked P (record { nodes = root_nodes; floors = low ∷ []; numbers = x; list = list; leaves = leaves; count = n; threshold = upper; spent = 0 })) (sym c)
    (subst (λ x. IsRanked P (record { nodes = root_nodes; floors = low ∷ []; numbers = None ∷ []; list = x; leaves = leaves; count = n; threshold = upper; spent = 0 })) (sym d)
    (subst (λ x. IsRanked P (record { nodes = root_nodes; floors = low ∷ []; numbers = None ∷ []; list = []; leaves = x; count = n; threshold = upper; spent = 0 })) (sym e)
    (subst (λ x. IsRanked P (record { nodes = root_nodes; floors = low ∷ []; numbers = None ∷ []; list = []; leaves = []; count = n; threshold = x; spent = 0 })) (sym f) ranked)))))
