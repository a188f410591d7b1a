-- What each line of a tree says, and what may stand behind the lines before it, in a text that has trees.
use Rattle.std.specs.Prelude.{ℕ, List, [], ◌∷◌, ◌++◌, codes}
use Rattle.cfn_model.specs.declared.step.Step.{Step}
use Rattle.cfn_model.specs.declared.step.Decision.{Decision}
use Rattle.cfn_model.specs.declared.step.Event.{Event}
use Rattle.cfn_model.specs.declared.step.Event.TheVariants.{Did, Took, Refused}
use Rattle.cfn_model.specs.declared.version.Version.{Version}
use Rattle.cfn_model.specs.Text.{step_words, decision_words, IsSpelledStep, IsSpelledDecision, HasDecision}

-- What a line of a tree says.
pub data Item : Type 0 where
  Makes : (step : Step) → Item
  LeavesOpen : Item
  Closes : Item
  Splits : (decision : Decision) → Item

abbrev pub item_words : Item → List (List ℕ)
item_words (Makes step) = step_words step
item_words LeavesOpen = codes "open" ∷ []
item_words Closes = codes "closed" ∷ []
item_words (Splits d) = decision_words d

-- Each number of an item has a spelling.
abbrev pub IsSpelledItem : Item → Type 0
IsSpelledItem (Makes step) = IsSpelledStep step
IsSpelledItem LeavesOpen = Unit {0}
IsSpelledItem Closes = Unit {0}
IsSpelledItem (Splits d) = IsSpelledDecision d

-- A version has a line for an item.
abbrev pub HasItem : Version → Item → Type 0
HasItem version (Makes step) = Unit {0}
HasItem version LeavesOpen = Unit {0}
HasItem version Closes = Unit {0}
HasItem version (Splits d) = HasDecision version d

-- The paths that are due after an item.
abbrev pub paths_after : List Event → Item → List (List Event)
paths_after history (Makes step) = (Did step ∷ history) ∷ []
paths_after history LeavesOpen = []
paths_after history Closes = []
paths_after history (Splits d) = (Took d ∷ history) ∷ (Refused d ∷ history) ∷ []

-- An item may come in a version where these paths are due, the next one first, and which are due behind it.
pub data NodeFollows : Version → List (List Event) → Item → List (List Event) → Type 0 where
  ItemFollows : {version : Version} {history : List Event} {paths : List (List Event)} {item : Item} → HasItem version item → NodeFollows version (history ∷ paths) item (paths_after history item ++ paths)
