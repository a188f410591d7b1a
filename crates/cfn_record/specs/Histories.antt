-- What a history of a search means: the entries of its record.
use Rattle.std.specs.Prelude.{ℕ, ◌≤◌, List, [], ◌∷◌, map}
use Rattle.std.specs.List.{AllByRecursion}
use Rattle.cfn_model.specs.declared.limits.TheConstants.{GREATEST}
use Rattle.cfn_proof.specs.Nodes.{tree_of}
use Rattle.cfn_record.specs.Entries as entries
use Rattle.cfn_record.specs.Entries.{Entry}
use Rattle.cfn_record.specs.Lines.{IsSpelledLine, lines_of_entry}
use Rattle.cfn_record.specs.declared.happened.Happened.{Happened}
use Rattle.cfn_record.specs.declared.happened.Happened.TheVariants.{Took, Gave, Freed, CalledBack, Swept}

-- How many nodes the search might make, what was done, the first first, and for how many more entries there is room.
pub record HistoryValue : Type 0 where
  pub budget : ℕ
  pub happened : List Happened
  pub room : ℕ

-- What was done, as an entry: a piece's nodes are a tree.
abbrev pub entry_of : Happened → Entry
entry_of (Took worker want leaf grant) = entries.Took worker want leaf grant
entry_of (Gave worker leaf grant threshold seen tree) = entries.Gave worker leaf grant threshold seen (tree_of tree)
entry_of (Freed worker leaf grant) = entries.Freed worker leaf grant
entry_of CalledBack = entries.CalledBack
entry_of (Swept seen) = entries.Swept seen

-- The entries of a history, in their order.
abbrev pub entries_of : HistoryValue → List Entry
entries_of h = map entry_of h.happened

-- The numbers of what was done that may be too large for a spelling. That of a worker never is.
abbrev pub numbers_of : Happened → List ℕ
numbers_of (Took worker want leaf grant) = want ∷ leaf ∷ grant ∷ []
numbers_of (Gave worker leaf grant threshold seen tree) = leaf ∷ grant ∷ threshold ∷ seen ∷ []
numbers_of (Freed worker leaf grant) = leaf ∷ grant ∷ []
numbers_of CalledBack = []
numbers_of (Swept seen) = seen ∷ []

-- The lines of an entry have a spelling.
abbrev pub IsSpelledEntry : Entry → Type 0
IsSpelledEntry entry = AllByRecursion IsSpelledLine (lines_of_entry entry)

-- What a history keeps: all of its numbers have a spelling.
pub record IsKept (budget : ℕ) (happened : List Happened) : Type 0 where
  pub budget_fits : budget ≤ GREATEST
  pub spelled : AllByRecursion IsSpelledEntry (map entry_of happened)
