-- By which decision a leaf is split.
use Rattle.std.proofs.Common.{◌≡◌, ℕ, ◌+◌, List, sym, ap, ◌∙◌, subst}
use Rattle.std.specs.Prelude.{Option, Result, Ok, Err, OnOk}
use Rattle.cfn_model.specs.declared.step.Decision.{Decision}
use Rattle.cfn_model.specs.declared.step.Event.{Event}
use Rattle.cfn_model.specs.Certificate.{Solution}
use Rattle.cfn_model.specs.Network.{Network}
use Rattle.cfn_model.specs.Steps.{after}
use Rattle.cfn_proof.specs.declared.tree.NodeId.{NodeId}
use Rattle.cfn_proof.specs.declared.tree.Node.{Node}
use Rattle.cfn_proof.specs.declared.tree.End.TheVariants.{Split}
use Rattle.cfn_proof.specs.Nodes.{split_end}
use Rattle.cfn_store.specs.Standing.{Standing}
use Rattle.cfn_branch.specs.declared.rule.Rule.{Rule}
use Rattle.cfn_dive.specs.Deciding.{IsByRule, IsSplitByRule}

same_decision : (d e : Decision) (a b f g : NodeId) → Split d a b ≡ Split e f g → d ≡ e
same_decision d e a b f g h = cc

-- a node that was split behind the store's block, by what the rule named
split_by_rule : (rule : Rule) (P : Network) (weights : List ℕ) (best : Option Solution) (path : List Event) (s : Standing) (old node : Node) (d : Decision) (n : ℕ) → s.network ≡ P → s.base ≡ path
    → IsByRule rule s weights best d → node ≡ record old { block = s.block; end = split_end d n } → IsSplitByRule rule P weights best path node
split_by_rule rule P weights best path s old node d n network base named is e first second split = (
  s,
  network,
  ap (after s.block) base ∙ ap (λ (m : Node). after m.block path) (sym is),
  subst (IsByRule rule s weights best) (same_decision d e (record { number = n }) (record { number = n + 1 }) first second (sym (ap (λ (m : Node). m.end) is) ∙ split)) named,
)

pub split_where_ok : {A E : Type 0} (result : Result A E) (rule : Rule) (P : Network) (weights : List ℕ) (best : Option Solution) (path : List Event) (s : Standing) (old node : Node) (d : Decision) (n : ℕ) → s.network ≡ P → s.base ≡ path
    → IsByRule rule s weights best d → OnOk result (node ≡ record old { block = s.block; end = split_end d n }) → OnOk result (IsSplitByRule rule P weights best path node)
split_where_ok (Ok a) rule P weights best path s old node d n network base named is = split_by_rule rule P weights best path s old node d n network base named is
split_where_ok (Err e) rule P weights best path s old node d n network base named is = tt

-- what a rule named of a store, where rule, weights and assignment are those of before
pub named_before : (rule old_rule : Rule) (s : Standing) (weights old_weights : List ℕ) (best old_best : Option Solution) (d : Decision) → rule ≡ old_rule → weights ≡ old_weights → best ≡ old_best → IsByRule rule s weights best d → IsByRule old_rule s old_weights old_best d
named_before rule old_rule s weights old_weights best old_best d same_rule same_weights same_best named =
    subst (λ r. IsByRule r s old_weights old_best d) same_rule (subst (λ w. IsByRule rule s w old_best d) same_weights (subst (λ b. IsByRule rule s weights b d) same_best named))
