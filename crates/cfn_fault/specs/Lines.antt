-- What each line of a certificate says, and what may stand behind the lines before it.
use Rattle.std.specs.Prelude.{◌≡◌, ℕ, ◌<◌, ◌≤◌, List, [], ◌∷◌, ◌++◌, length, map, flat_map, Option, Some, None, decimal, codes}
use Rattle.std.specs.List.{AllByRecursion}
use Rattle.cfn_model.specs.declared.step.Event.{Event}
use Rattle.cfn_model.specs.declared.version.Version as versions
use Rattle.cfn_model.specs.Words.{greatest}
use Rattle.cfn_model.specs.Tree.{Tree, Open, Closed, Split}
use Rattle.cfn_model.specs.Certificate.{Solution, Certificate}
use Rattle.cfn_model.specs.Text.{line, version_word}
use Rattle.cfn_fault.specs.Nodes.{Item, Makes, LeavesOpen, Closes, Splits, item_words, IsSpelledItem, NodeFollows}

-- What a line of a certificate says.
pub data Line : Type 0 where
  Version : (version : versions.Version) → Line
  Numbers : (variables functions upper : ℕ) → Line
  Lower : (lower : ℕ) → Line
  NoBest : Line
  Best : (cost : ℕ) → Line
  Values : (values : List ℕ) → Line
  Root : Line
  Node : (item : Item) → Line
  End : Line

-- The words of a line, and its bytes.
abbrev pub words_of : Line → List (List ℕ)
words_of (Version version) = codes "wcspcert" ∷ version_word version ∷ []
words_of (Numbers n e upper) = codes "network" ∷ decimal n ∷ decimal e ∷ decimal upper ∷ []
words_of (Lower lower) = codes "lower" ∷ decimal lower ∷ []
words_of NoBest = codes "best" ∷ codes "none" ∷ []
words_of (Best cost) = codes "best" ∷ decimal cost ∷ []
words_of (Values values) = codes "values" ∷ map decimal values
words_of Root = codes "tree" ∷ []
words_of (Node item) = item_words item
words_of End = codes "end" ∷ []

abbrev pub bytes_of : Line → List ℕ
bytes_of l = line (words_of l)

-- The text that lines are.
abbrev pub text_of : List Line → List ℕ
text_of ls = flat_map bytes_of ls

-- Each number of a line has a spelling, and there is at least one value.
abbrev pub IsSpelledLine : Line → Type 0
IsSpelledLine (Version version) = Unit {0}
IsSpelledLine (Numbers n e upper) = (n ≤ greatest) × (e ≤ greatest) × (upper ≤ greatest)
IsSpelledLine (Lower lower) = lower ≤ greatest
IsSpelledLine NoBest = Unit {0}
IsSpelledLine (Best cost) = cost ≤ greatest
IsSpelledLine (Values values) = (0 < length values) × AllByRecursion (λ a. a ≤ greatest) values
IsSpelledLine Root = Unit {0}
IsSpelledLine (Node item) = IsSpelledItem item
IsSpelledLine End = Unit {0}

-- The lines of a certificate, in the order of the text.
abbrev pub lines_of_tree : Tree → List Line
lines_of_tree (Open block) = map (λ step. Node (Makes step)) block ++ Node LeavesOpen ∷ []
lines_of_tree (Closed block) = map (λ step. Node (Makes step)) block ++ Node Closes ∷ []
lines_of_tree (Split block d first second) = map (λ step. Node (Makes step)) block ++ Node (Splits d) ∷ (lines_of_tree first ++ lines_of_tree second)

abbrev pub lines_of_best : Option Solution → List Line
lines_of_best None = NoBest ∷ []
lines_of_best (Some best) = Best best.cost ∷ Values best.values ∷ []

abbrev pub lines_of : Certificate → List Line
lines_of c =
    (Version c.version ∷ Numbers c.variables c.functions c.upper ∷ Lower c.lower ∷ lines_of_best c.best) ++ Root ∷ (lines_of_tree c.tree ++ End ∷ [])

-- Which line is due, and behind the first one the version. Of a tree's nodes, what happened on the paths to the nodes
-- that are due, the next one first.
pub data State : Type 0 where
  AtVersion : State
  AtNumbers : (version : versions.Version) → State
  AtLower : (version : versions.Version) → State
  AtBest : (version : versions.Version) → State
  AtValues : (version : versions.Version) → State
  AtRoot : (version : versions.Version) → State
  AtNodes : (version : versions.Version) (paths : List (List Event)) → State
  AtOver : State

-- A line may come where a state says, and what is due behind it.
pub data Follows : State → Line → State → Type 0 where
  VersionFollows : {version : versions.Version} → Follows AtVersion (Version version) (AtNumbers version)
  NumbersFollow : {version : versions.Version} {n e upper : ℕ} → Follows (AtNumbers version) (Numbers n e upper) (AtLower version)
  LowerFollows : {version : versions.Version} {lower : ℕ} → Follows (AtLower version) (Lower lower) (AtBest version)
  NoBestFollows : {version : versions.Version} → Follows (AtBest version) NoBest (AtRoot version)
  BestFollows : {version : versions.Version} {cost : ℕ} → Follows (AtBest version) (Best cost) (AtValues version)
  ValuesFollow : {version : versions.Version} {values : List ℕ} → Follows (AtValues version) (Values values) (AtRoot version)
  RootFollows : {version : versions.Version} → Follows (AtRoot version) Root (AtNodes version ([] ∷ []))
  NodeLineFollows : {version : versions.Version} {paths more : List (List Event)} {item : Item} → NodeFollows version paths item more → Follows (AtNodes version paths) (Node item) (AtNodes version more)
  EndFollows : {version : versions.Version} → Follows (AtNodes version []) End AtOver

-- Lines that may come one behind the other, from one state to another.
abbrev pub Runs : State → List Line → State → Type 0
Runs s [] t = s ≡ t
Runs s (l ∷ ls) t = (m : State) × Follows s l m × Runs m ls t
