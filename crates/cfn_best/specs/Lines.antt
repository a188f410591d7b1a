-- What each line of a list's text says, and what may stand behind the lines before it.
use Rattle.std.specs.Prelude.{◌≡◌, ℕ, zero, suc, ◌<◌, ◌≤◌, min, List, [], ◌∷◌, ◌++◌, length, map, flat_map, decimal, codes}
use Rattle.std.specs.List.{AllByRecursion}
use Rattle.cfn_model.specs.declared.step.Event.{Event}
use Rattle.cfn_model.specs.Words.{greatest}
use Rattle.cfn_model.specs.Network.{Network}
use Rattle.cfn_model.specs.Text.{line}
use Rattle.cfn_model.specs.Certificate.{Solution}
use Rattle.cfn_fault.specs.Nodes.{Item, Makes, LeavesOpen, Closes, Splits, paths_after}
use Rattle.cfn_fault.specs.Lines as lines
use Rattle.cfn_fault.specs.Lines.{Line}
use Rattle.cfn_fault.specs.Judging.{floor_at, lowest}
use Rattle.cfn_best.specs.Tree.{ListTree, Open, Closed, Listed, Split}
use Rattle.cfn_best.specs.List.{ListCertificate, threshold_of}

-- What a line of a list's text says: three lines are its own, and the others are those of a certificate.
pub data ListLine : Type 0 where
  Heading : ListLine
  Count : (count : ℕ) → ListLine
  Lists : (number : ℕ) → ListLine
  Says : (l : Line) → ListLine

-- The words of a line, and its bytes.
abbrev pub words_of : ListLine → List (List ℕ)
words_of Heading = codes "wcspbest" ∷ codes "1" ∷ []
words_of (Count count) = codes "count" ∷ decimal count ∷ []
words_of (Lists number) = codes "listed" ∷ decimal number ∷ []
words_of (Says l) = lines.words_of l

abbrev pub bytes_of : ListLine → List ℕ
bytes_of l = line (words_of l)

-- The text that lines are.
abbrev pub text_of : List ListLine → List ℕ
text_of ls = flat_map bytes_of ls

-- Each number of a line has a spelling, and at least one assignment is asked for.
abbrev pub IsSpelledLine : ListLine → Type 0
IsSpelledLine Heading = Unit {0}
IsSpelledLine (Count count) = (0 < count) × (count ≤ greatest)
IsSpelledLine (Lists number) = number ≤ greatest
IsSpelledLine (Says l) = lines.IsSpelledLine l

-- The lines of a list, in the order of the text.
abbrev pub lines_of_tree : ListTree → List ListLine
lines_of_tree (Open block) = map (λ step. Says (lines.Node (Makes step))) block ++ Says (lines.Node LeavesOpen) ∷ []
lines_of_tree (Closed block) = map (λ step. Says (lines.Node (Makes step))) block ++ Says (lines.Node Closes) ∷ []
lines_of_tree (Listed block j) = map (λ step. Says (lines.Node (Makes step))) block ++ Lists j ∷ []
lines_of_tree (Split block d first second) = map (λ step. Says (lines.Node (Makes step))) block ++ Says (lines.Node (Splits d)) ∷ (lines_of_tree first ++ lines_of_tree second)

abbrev pub line_of_solution : Solution → ListLine
line_of_solution s = Says (lines.Values (s.cost ∷ s.values))

abbrev pub lines_of : ListCertificate → List ListLine
lines_of c =
    Heading
    ∷ Says (lines.Numbers c.variables c.functions c.upper)
    ∷ Count c.count
    ∷ Says (lines.Lower c.lower)
    ∷ Says (lines.Best (length c.list))
    ∷ (map line_of_solution c.list ++ Says lines.Root ∷ (lines_of_tree c.tree ++ Says lines.End ∷ []))

-- A list that has a spelling: each of its lines has one, and each assignment has a value.
pub record IsSpelled (c : ListCertificate) : Type 0 where
  pub lines : AllByRecursion IsSpelledLine (lines_of c)
  pub values : AllByRecursion (λ s. 0 < length s.values) c.list

-- The bytes are the one spelling of the list.
pub record Spells (c : ListCertificate) (bytes : List ℕ) : Type 0 where
  pub spelled : IsSpelled c
  pub exact : bytes ≡ text_of (lines_of c)

-- What the lines so far have claimed: how many assignments were asked for, the lower bound, and the assignments so far.
pub record Claim : Type 0 where
  pub count : ℕ
  pub lower : ℕ
  pub list : List Solution

abbrev pub with_solution : Solution → Claim → Claim
with_solution s claim = record { count = claim.count; lower = claim.lower; list = claim.list ++ s ∷ [] }

abbrev pub threshold : Network → Claim → ℕ
threshold P claim = threshold_of P.upper claim.count claim.list

-- Which line is due. In the list, how many assignments are still to come. In the tree, the least of the threshold and the
-- floors of the open leaves so far, and what happened on the paths to the nodes that are due, the next one first.
pub data State : Type 0 where
  AtHeading : State
  AtNumbers : State
  AtCount : State
  AtLower : (count : ℕ) → State
  AtBest : (count lower : ℕ) → State
  AtList : (claim : Claim) (left : ℕ) → State
  AtNodes : (claim : Claim) (least : ℕ) (paths : List (List Event)) → State
  AtOver : (claim : Claim) (least : ℕ) → State

-- A line may come where a state says, and what is due behind it.
pub data Follows (P : Network) : State → ListLine → State → Type 0 where
  HeadingFollows : Follows P AtHeading Heading AtNumbers
  NumbersFollow : {n e upper : ℕ} → Follows P AtNumbers (Says (lines.Numbers n e upper)) AtCount
  CountFollows : {count : ℕ} → Follows P AtCount (Count count) (AtLower count)
  LowerFollows : {count lower : ℕ} → Follows P (AtLower count) (Says (lines.Lower lower)) (AtBest count lower)
  BestFollows : {count lower many : ℕ} → Follows P (AtBest count lower) (Says (lines.Best many)) (AtList (record { count = count; lower = lower; list = [] }) many)
  ValuesFollow : {claim : Claim} {left cost a : ℕ} {values : List ℕ} → Follows P (AtList claim (suc left)) (Says (lines.Values (cost ∷ a ∷ values))) (AtList (with_solution (record { cost = cost; values = a ∷ values }) claim) left)
  RootFollows : {claim : Claim} → Follows P (AtList claim 0) (Says lines.Root) (AtNodes claim (threshold P claim) ([] ∷ []))
  NodeLineFollows : {claim : Claim} {least : ℕ} {history : List Event} {paths : List (List Event)} {item : Item}
      → Follows P (AtNodes claim least (history ∷ paths)) (Says (lines.Node item)) (AtNodes claim (lowest least (floor_at P history item)) (paths_after history item ++ paths))
  ListsFollows : {claim : Claim} {least j : ℕ} {history : List Event} {paths : List (List Event)} → Follows P (AtNodes claim least (history ∷ paths)) (Lists j) (AtNodes claim least paths)
  EndFollows : {claim : Claim} {least : ℕ} → Follows P (AtNodes claim least []) (Says lines.End) (AtOver claim least)
