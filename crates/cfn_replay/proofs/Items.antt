-- Items that are lines of a node.
use Rattle.std.proofs.Common.{◌≡◌, true, false, refl, sym, ap, subst}
use Rattle.std.specs.Prelude.{Option, Some, None, MatchOption}
use Rattle.cfn_fault.specs.Nodes as tree
use Rattle.cfn_certtext.specs.declared.event.Item.{Item}
use Rattle.cfn_certtext.specs.declared.event.Item.TheVariants as items
use Rattle.cfn_certtext.specs.declared.event.StepText.{StepText}
use Rattle.cfn_certtext.specs.declared.event.StepText.TheVariants as texts
use Rattle.cfn_certtext.specs.declared.event.DecisionText.{DecisionText}
use Rattle.cfn_certtext.specs.declared.event.DecisionText.TheVariants as splits
use Rattle.cfn_certtext.specs.Reading.{step_of, text_of_step, decision_of, text_of_decision}
use Rattle.cfn_certtext.specs.Stages.{line_of_item}
use Rattle.cfn_record.specs.Lines.{Says}
use Rattle.cfn_replay.specs.Kinds.{is_node, is_of_tree, IsNodeLine}

same_step : (step : StepText) → step ≡ text_of_step (step_of step)
same_step (texts.Project f i a m) = refl
same_step (texts.Extend f i a m) = refl
same_step (texts.Lift x m) = refl
same_step (texts.CutValue x a) = refl
same_step (texts.CutTuple f c) = refl

same_decision : (d : DecisionText) → d ≡ text_of_decision (decision_of d)
same_decision (splits.Is x a) = refl
same_decision (splits.Most x v) = refl

node_item : (item : Item) → is_node item ≡ true → IsNodeLine item (Some (Says (line_of_item item)))
node_item (items.Step step) e = (tree.Makes (step_of step), ap items.Step (same_step step), refl)
node_item items.Open e = (tree.LeavesOpen, refl, refl)
node_item items.Closed e = (tree.Closes, refl, refl)
node_item (items.Split d) e = (tree.Splits (decision_of d), ap items.Split (same_decision d), refl)
node_item _ e = absurd cc

not_node : (item : Item) → is_node item ≡ false → is_of_tree (Some (Says (line_of_item item))) ≡ false
not_node (items.Step step) e = absurd cc
not_node items.Open e = absurd cc
not_node items.Closed e = absurd cc
not_node (items.Split d) e = absurd cc
not_node _ e = refl

-- so of one that was read
pub node_read : (item : Item) (r : Option Item) → MatchOption r (is_node item ≡ false) (λ it. (it ≡ item) × (is_node item ≡ true)) →
    MatchOption r (is_of_tree (Some (Says (line_of_item item))) ≡ false) (λ it. IsNodeLine it (Some (Says (line_of_item item))))
node_read item None none = not_node item none
node_read item (Some it) is = subst (λ x. IsNodeLine x (Some (Says (line_of_item item)))) (sym is.0) (node_item item is.1)
