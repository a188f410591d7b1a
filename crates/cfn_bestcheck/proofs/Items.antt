-- Items that are lines of a tree, and words of values.
use Rattle.std.proofs.Common.{◌≡◌, ℕ, true, false, List, [], ◌∷◌, refl, ap}
use Rattle.std.specs.Prelude.{Some}
use Rattle.cfn_fault.specs.Nodes as tree
use Rattle.cfn_fault.specs.Lines as lines
use Rattle.cfn_certtext.specs.declared.event.Item.{Item}
use Rattle.cfn_certtext.specs.declared.event.Item.TheVariants as items
use Rattle.cfn_certtext.specs.declared.event.StepText.{StepText}
use Rattle.cfn_certtext.specs.declared.event.StepText.TheVariants as texts
use Rattle.cfn_certtext.specs.declared.event.DecisionText.{DecisionText}
use Rattle.cfn_certtext.specs.declared.event.DecisionText.TheVariants as splits
use Rattle.cfn_certtext.specs.Reading.{step_of, text_of_step, decision_of, text_of_decision, item_of}
use Rattle.cfn_certtext.specs.Stages.{line_of_item, values_of}
use Rattle.cfn_best.specs.Lines.{Says}
use Rattle.cfn_bestcheck.specs.Kinds.{is_node, is_of_tree, values_in}

same_step : (step : StepText) → step ≡ text_of_step (step_of step)
same_step (texts.Project f i a m) = refl
same_step (texts.Extend f i a m) = refl
same_step (texts.Lift x m) = refl
same_step (texts.CutValue x a) = refl
same_step (texts.CutTuple f c) = refl

same_decision : (d : DecisionText) → d ≡ text_of_decision (decision_of d)
same_decision (splits.Is x a) = refl
same_decision (splits.Most x v) = refl

-- the node that an item is
pub record IsNode (item : Item) : Type 0 where
  pub node : tree.Item
  pub tells : item ≡ item_of (lines.Node node)
  pub line : line_of_item item ≡ lines.Node node

pub node_item : (item : Item) → is_node item ≡ true → IsNode item
node_item (items.Step step) e = record { node = tree.Makes (step_of step); tells = ap items.Step (same_step step); line = refl }
node_item items.Open e = record { node = tree.LeavesOpen; tells = refl; line = refl }
node_item items.Closed e = record { node = tree.Closes; tells = refl; line = refl }
node_item (items.Split d) e = record { node = tree.Splits (decision_of d); tells = ap items.Split (same_decision d); line = refl }
node_item _ e = absurd cc

pub not_node : (item : Item) → is_node item ≡ false → is_of_tree (Some (Says (line_of_item item))) ≡ false
not_node (items.Step step) e = absurd cc
not_node items.Open e = absurd cc
not_node items.Closed e = absurd cc
not_node (items.Split d) e = absurd cc
not_node _ e = refl

-- where words are left, there is a value
pub some_values : (first : ℕ) (words : List (List ℕ)) → (words ≡ [] → ⊥) → values_in (Some (Says (lines.Values (first ∷ values_of words)))) ≡ Some (first, values_of words)
some_values first [] some = absurd (some refl)
some_values first (word ∷ words) some = refl
