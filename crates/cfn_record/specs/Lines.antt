-- Records of searches, what each line of a record's text says, and what may stand behind the lines before it.
use Rattle.std.specs.Prelude.{◌≡◌, ℕ, ◌≤◌, List, [], ◌∷◌, ◌++◌, map, flat_map, Option, decimal, codes}
use Rattle.std.specs.List.{AllByRecursion}
use Rattle.cfn_model.specs.declared.step.Event.{Event}
use Rattle.cfn_model.specs.declared.version.Version.TheVariants.{Second}
use Rattle.cfn_model.specs.Words.{greatest}
use Rattle.cfn_model.specs.Tree.{Tree}
use Rattle.cfn_model.specs.Text.{line}
use Rattle.cfn_model.specs.Certificate.{Solution}
use Rattle.cfn_fault.specs.Nodes.{Item, NodeFollows}
use Rattle.cfn_fault.specs.Lines as lines
use Rattle.cfn_fault.specs.Lines.{Line}
use Rattle.cfn_record.specs.Entries.{Entry, Took, Gave, Freed, CalledBack, Swept}

-- How many variables and functions the network has, its upper bound, how many nodes the search might make, what was done to the pool,
-- and the best assignment that was found.
pub record Record : Type 0 where
  pub variables : ℕ
  pub functions : ℕ
  pub upper : ℕ
  pub budget : ℕ
  pub entries : List Entry
  pub best : Option Solution

-- What a line of a record's text says: the first one, the budget and the events are its own, and the others are those of a certificate.
pub data RecordLine : Type 0 where
  Heading : RecordLine
  Budget : (budget : ℕ) → RecordLine
  Take : (worker want leaf grant : ℕ) → RecordLine
  Give : (worker leaf grant threshold seen : ℕ) → RecordLine
  Back : (worker leaf grant : ℕ) → RecordLine
  Recall : RecordLine
  Sweep : (seen : ℕ) → RecordLine
  Says : (l : Line) → RecordLine

-- The words of a line.
abbrev pub words_of : RecordLine → List (List ℕ)
words_of Heading = codes "wcsprecord" ∷ codes "1" ∷ []
words_of (Budget budget) = codes "budget" ∷ decimal budget ∷ []
words_of (Take worker want leaf grant) = codes "take" ∷ decimal worker ∷ decimal want ∷ decimal leaf ∷ decimal grant ∷ []
words_of (Give worker leaf grant threshold seen) = codes "give" ∷ decimal worker ∷ decimal leaf ∷ decimal grant ∷ decimal threshold ∷ decimal seen ∷ []
words_of (Back worker leaf grant) = codes "back" ∷ decimal worker ∷ decimal leaf ∷ decimal grant ∷ []
words_of Recall = codes "recall" ∷ []
words_of (Sweep seen) = codes "sweep" ∷ decimal seen ∷ []
words_of (Says l) = lines.words_of l

-- The bytes of a line.
abbrev pub bytes_of : RecordLine → List ℕ
bytes_of l = line (words_of l)

-- The text that lines are.
abbrev pub text_of : List RecordLine → List ℕ
text_of ls = flat_map bytes_of ls

-- These numbers have a spelling.
abbrev pub AreSpelled : List ℕ → Type 0
AreSpelled numbers = AllByRecursion (λ n. n ≤ greatest) numbers

-- Each number of a line has a spelling, and there is at least one value.
abbrev pub IsSpelledLine : RecordLine → Type 0
IsSpelledLine Heading = Unit {0}
IsSpelledLine (Budget budget) = AreSpelled (budget ∷ [])
IsSpelledLine (Take worker want leaf grant) = AreSpelled (worker ∷ want ∷ leaf ∷ grant ∷ [])
IsSpelledLine (Give worker leaf grant threshold seen) = AreSpelled (worker ∷ leaf ∷ grant ∷ threshold ∷ seen ∷ [])
IsSpelledLine (Back worker leaf grant) = AreSpelled (worker ∷ leaf ∷ grant ∷ [])
IsSpelledLine Recall = Unit {0}
IsSpelledLine (Sweep seen) = AreSpelled (seen ∷ [])
IsSpelledLine (Says l) = lines.IsSpelledLine l

-- Lines of a certificate, as lines of a record.
abbrev pub said : List Line → List RecordLine
said ls = map (λ l. Says l) ls

-- The lines of a piece's tree are those of a certificate's.
abbrev pub lines_of_tree : Tree → List RecordLine
lines_of_tree tree = said (lines.lines_of_tree tree)

-- The lines of an entry: one, and behind a give those of its piece.
abbrev pub lines_of_entry : Entry → List RecordLine
lines_of_entry (Took worker want leaf grant) = Take worker want leaf grant ∷ []
lines_of_entry (Gave worker leaf grant threshold seen tree) = Give worker leaf grant threshold seen ∷ lines_of_tree tree
lines_of_entry (Freed worker leaf grant) = Back worker leaf grant ∷ []
lines_of_entry CalledBack = Recall ∷ []
lines_of_entry (Swept seen) = Sweep seen ∷ []

-- The lines of entries, in their order.
abbrev pub lines_of_entries : List Entry → List RecordLine
lines_of_entries entries = flat_map lines_of_entry entries

-- The lines of the best assignment are those of a certificate.
abbrev pub lines_of_best : Option Solution → List RecordLine
lines_of_best best = said (lines.lines_of_best best)

-- The lines of a record, in the order of the text.
abbrev pub lines_of : Record → List RecordLine
lines_of r =
    Heading
    ∷ Says (lines.Numbers r.variables r.functions r.upper)
    ∷ Budget r.budget
    ∷ (lines_of_entries r.entries ++ (lines_of_best r.best ++ Says lines.End ∷ []))

-- A record that has a spelling: each of its lines has one.
abbrev pub IsSpelled : Record → Type 0
IsSpelled r = AllByRecursion IsSpelledLine (lines_of r)

-- The bytes are the one spelling of the record.
pub record Spells (r : Record) (bytes : List ℕ) : Type 0 where
  pub spelled : IsSpelled r
  pub exact : bytes ≡ text_of (lines_of r)

-- Which line is due. Of a piece's nodes, what happened on the paths to those that are due, the next one first; where none is due, an
-- event is, or the best assignment.
pub data State : Type 0 where
  AtHeading : State
  AtNumbers : State
  AtBudget : State
  AtEvents : (paths : List (List Event)) → State
  AtValues : State
  AtEnd : State
  AtOver : State

-- A line may come where a state says, and what is due behind it. The nodes of a piece are those of a certificate's second version.
pub data LineFollows : State → RecordLine → State → Type 0 where
  HeadingFollows : LineFollows AtHeading Heading AtNumbers
  NumbersFollow : {n e upper : ℕ} → LineFollows AtNumbers (Says (lines.Numbers n e upper)) AtBudget
  BudgetFollows : {budget : ℕ} → LineFollows AtBudget (Budget budget) (AtEvents [])
  TakeFollows : {worker want leaf grant : ℕ} → LineFollows (AtEvents []) (Take worker want leaf grant) (AtEvents [])
  GiveFollows : {worker leaf grant threshold seen : ℕ} → LineFollows (AtEvents []) (Give worker leaf grant threshold seen) (AtEvents ([] ∷ []))
  BackFollows : {worker leaf grant : ℕ} → LineFollows (AtEvents []) (Back worker leaf grant) (AtEvents [])
  RecallFollows : LineFollows (AtEvents []) Recall (AtEvents [])
  SweepFollows : {seen : ℕ} → LineFollows (AtEvents []) (Sweep seen) (AtEvents [])
  NodeLineFollows : {paths more : List (List Event)} {item : Item} → NodeFollows Second paths item more → LineFollows (AtEvents paths) (Says (lines.Node item)) (AtEvents more)
  NoBestFollows : LineFollows (AtEvents []) (Says lines.NoBest) AtEnd
  BestFollows : {cost : ℕ} → LineFollows (AtEvents []) (Says (lines.Best cost)) AtValues
  ValuesFollow : {values : List ℕ} → LineFollows AtValues (Says (lines.Values values)) AtEnd
  EndFollows : LineFollows AtEnd (Says lines.End) AtOver
