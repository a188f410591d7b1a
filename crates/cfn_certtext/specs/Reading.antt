-- What the reader of a certificate's text has read, and what each event tells of it.
use Rattle.std.specs.Prelude.{◌≡◌, ℕ, ◌+◌, List, [], ◌∷◌, ◌++◌, length}
use Rattle.std.specs.List.{AllByRecursion}
use Rattle.cfn_model.specs.declared.step.Step.{Step}
use Rattle.cfn_model.specs.declared.step.Step.TheVariants as steps
use Rattle.cfn_model.specs.declared.step.Decision.{Decision}
use Rattle.cfn_model.specs.declared.step.Decision.TheVariants as decisions
use Rattle.cfn_model.specs.Certificate.{Certificate}
use Rattle.cfn_model.specs.Text.{IsSpelled}
use Rattle.cfn_fault.specs.Nodes as tree
use Rattle.cfn_fault.specs.Fault.{Begins}
use Rattle.cfn_fault.specs.Lines as lines
use Rattle.cfn_fault.specs.Lines.{Line, State, Runs, Follows, text_of, IsSpelledLine}
use Rattle.cfn_certtext.specs.declared.event.StepText.{StepText}
use Rattle.cfn_certtext.specs.declared.event.StepText.TheVariants as texts
use Rattle.cfn_certtext.specs.declared.event.DecisionText.{DecisionText}
use Rattle.cfn_certtext.specs.declared.event.DecisionText.TheVariants as splits
use Rattle.cfn_certtext.specs.declared.event.Item.{Item}
use Rattle.cfn_certtext.specs.declared.event.Item.TheVariants as items
use Rattle.cfn_certtext.specs.declared.event.Event.{Event}
use Rattle.cfn_certtext.specs.declared.stage.Stage.{Stage}
use Rattle.cfn_certtext.specs.declared.stage.Stage.TheVariants as stages

-- A step and its text.
abbrev pub step_of : StepText → Step
step_of (texts.Project f i a m) = steps.Project f i a m
step_of (texts.Extend f i a m) = steps.Extend f i a m
step_of (texts.Lift x m) = steps.Lift x m
step_of (texts.CutValue x a) = steps.CutValue x a
step_of (texts.CutTuple f c) = steps.CutTuple f c

abbrev pub text_of_step : Step → StepText
text_of_step (steps.Project f i a m) = texts.Project f i a m
text_of_step (steps.Extend f i a m) = texts.Extend f i a m
text_of_step (steps.Lift x m) = texts.Lift x m
text_of_step (steps.CutValue x a) = texts.CutValue x a
text_of_step (steps.CutTuple f c) = texts.CutTuple f c

-- A decision and its text.
abbrev pub decision_of : DecisionText → Decision
decision_of (splits.Is x a) = decisions.Is x a
decision_of (splits.Most x v) = decisions.Most x v

abbrev pub text_of_decision : Decision → DecisionText
text_of_decision (decisions.Is x a) = splits.Is x a
text_of_decision (decisions.Most x v) = splits.Most x v

-- The first event of a line, and the values of the line that are told by later ones.
abbrev pub item_of : Line → Item
item_of (lines.Version version) = items.Version version
item_of (lines.Numbers n e upper) = items.Network n e upper
item_of (lines.Lower lower) = items.Lower lower
item_of lines.NoBest = items.NoBest
item_of (lines.Best cost) = items.Best cost
item_of (lines.Values []) = items.Over
item_of (lines.Values (a ∷ values)) = items.Value a
item_of lines.Root = items.Tree
item_of (lines.Node (tree.Makes step)) = items.Step (text_of_step step)
item_of (lines.Node tree.LeavesOpen) = items.Open
item_of (lines.Node tree.Closes) = items.Closed
item_of (lines.Node (tree.Splits d)) = items.Split (text_of_decision d)
item_of lines.End = items.End

abbrev pub values_behind : Line → List ℕ
values_behind (lines.Version version) = []
values_behind (lines.Numbers n e upper) = []
values_behind (lines.Lower lower) = []
values_behind lines.NoBest = []
values_behind (lines.Best cost) = []
values_behind (lines.Values []) = []
values_behind (lines.Values (a ∷ values)) = values
values_behind lines.Root = []
values_behind (lines.Node item) = []
values_behind lines.End = []

-- The line that is due in a state.
abbrev pub due_of : State → Stage
due_of lines.AtVersion = stages.Version
due_of (lines.AtNumbers version) = stages.Network version
due_of (lines.AtLower version) = stages.Lower version
due_of (lines.AtBest version) = stages.Best version
due_of (lines.AtValues version) = stages.Values version
due_of (lines.AtRoot version) = stages.Tree version
due_of (lines.AtNodes version paths) = stages.Nodes version (length paths)
due_of lines.AtOver = stages.Over

-- A text, the bytes behind the lines that were read, the number of those, the line that is due, and the values of the
-- last line that are still to be told.
pub record Reading : Type 0 where
  pub text : List ℕ
  pub rest : List ℕ
  pub count : ℕ
  pub due : Stage
  pub left : List ℕ

-- These lines were read, and lead to this state.
pub record HasRead (r : Reading) (ls : List Line) (s : State) : Type 0 where
  pub text : r.text ≡ text_of ls ++ r.rest
  pub count : r.count ≡ length ls
  pub due : r.due ≡ due_of s
  pub run : Runs lines.AtVersion ls s
  pub spelled : AllByRecursion IsSpelledLine ls

-- What an event tells, where these lines had been read: the next line, one value more of the last line, or that nothing
-- follows.
pub data Tells (old new : Reading) (ls : List Line) (s : State) (event : Event) : Type 0 where
  NextLine : (l : Line) (t : State) → old.left ≡ [] → event.item ≡ item_of l → event.line ≡ new.count → Follows s l t → IsSpelledLine l → new.left ≡ values_behind l
      → HasRead new (ls ++ l ∷ []) t → Tells old new ls s event
  NextValue : (a : ℕ) → event.item ≡ items.Value a → event.line ≡ old.count → old.left ≡ a ∷ new.left → new ≡ record old { left = new.left } → Tells old new ls s event
  NothingLeft : event.item ≡ items.Over → event.line ≡ old.count → s ≡ lines.AtOver → old.rest ≡ [] → old.left ≡ [] → new ≡ old → Tells old new ls s event

-- No certificate begins with the lines that were read and the next one.
abbrev pub NoneBegins : Reading → Type 0
NoneBegins r = (c : Certificate) → IsSpelled c → Begins c r.text (r.count + 1) → ⊥
