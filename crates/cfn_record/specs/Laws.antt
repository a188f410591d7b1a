-- What a record of the pool's steps comes to.
use Rattle.std.specs.Prelude.{◌≡◌, ℕ, ◌⊎◌, List, [], ◌∷◌, ◌++◌, MatchOption, Option}
use Rattle.std.specs.List.{AllByRecursion}
use Rattle.cfn_model.specs.declared.step.Event.{Event}
use Rattle.cfn_model.specs.declared.version.Version.TheVariants.{Second}
use Rattle.cfn_model.specs.Network.{Network, IsNetwork}
use Rattle.cfn_model.specs.Tree.{Tree}
use Rattle.cfn_model.specs.Certificate.{Solution, IsBest}
use Rattle.cfn_fault.specs.Lines as lines
use Rattle.cfn_fault.specs.Lines.{Line}
use Rattle.cfn_machine.specs.Pool.{Pool, AreNumbered, opening_pool}
use Rattle.cfn_machine.specs.Steps.{PoolStep, PoolSteps, IsLegal, Move, PoolRuns}
use Rattle.cfn_record.specs.Entries.{Entry, Follows, Runs, entry_of, entries_of, IsAlike, IsSame}
use Rattle.cfn_record.specs.declared.kind.RecordFault.{RecordFault}
use Rattle.cfn_record.specs.Lines.{Record, RecordLine, Spells, State, AtEvents, AtOver, bytes_of, text_of, said, lines_of_entry, lines_of, IsSpelledLine}
use Rattle.cfn_record.specs.Replaying.{GoodRecord, record_of, sweep_at}
use Rattle.cfn_record.specs.Fault.{ComesTo, StandsFirst, Passes, HasPassed, NoneComes, Fault}

-- What is recorded of a legal step can be done to every pool that is alike, and the pools are alike behind it. Where nothing is recorded,
-- they stay alike.
abbrev pub StepFollows : Type 0
StepFollows = (P : Network) (pool new other : Pool) (word : ℕ) (step : PoolStep) → IsLegal P pool word step → PoolSteps P pool word step new → IsAlike pool other
    → MatchOption (entry_of word step) (IsAlike new other) (λ entry. (left : Pool) × Follows P other entry left × IsAlike new left)

-- So for a list of legal steps.
abbrev pub MovesFollow : Type 0
MovesFollow = (P : Network) (pool new other : Pool) (moves : List Move) → PoolRuns P pool moves new → IsAlike pool other → (left : Pool) × Runs P other (entries_of moves) left × IsAlike new left

-- The record of a search is good where its last step is a sweep at the best assignment's cost, and it comes to the search's own tree.
abbrev pub SearchIsRecorded : Type 0
SearchIsRecorded = (P : Network) (shares budget : ℕ) (moves : List Move) (best : Option Solution) (new : Pool) → IsNetwork P → IsBest P best → PoolRuns P (opening_pool P shares budget) (moves ++ sweep_at P best ∷ []) new
    → (good : GoodRecord P (record_of P budget (moves ++ sweep_at P best ∷ []) best)) × (good.pool.tree ≡ new.tree)

-- Each open leaf has a number of its own behind an entry, where it had one before.
abbrev pub FollowsNumbered : Type 0
FollowsNumbered = (P : Network) (pool new : Pool) (entry : Entry) → AreNumbered pool → Follows P pool entry new → AreNumbered new

-- One list of entries makes one pool of a pool, as far as tree, numbers, budget, nodes and the threshold seen go.
abbrev pub OneRun : Type 0
OneRun = (P : Network) (pool other new left : Pool) (entries : List Entry) → AreNumbered pool → IsSame pool other → Runs P pool entries new → Runs P other entries left → IsSame new left

-- So of the opening, however the word's shares are dealt.
abbrev pub OneEnd : Type 0
OneEnd = (P : Network) (shares others budget : ℕ) (entries : List Entry) (new left : Pool) → Runs P (opening_pool P shares budget) entries new → Runs P (opening_pool P others budget) entries left → IsSame new left

-- Bytes spell one record at most.
abbrev pub OneRecord : Type 0
OneRecord = (bytes : List ℕ) (r s : Record) → Spells r bytes → Spells s bytes → r ≡ s

-- A text has one fault at most: one line, and one kind.
abbrev pub FaultsAreOne : Type 0
FaultsAreOne = (P : Network) (bytes : List ℕ) (l m : ℕ) (kind other : RecordFault) → Fault P bytes l kind → Fault P bytes m other → (l ≡ m) × (kind ≡ other)

-- Where the bytes spell a good record, there is no fault.
abbrev pub NoFaultWhereGood : Type 0
NoFaultWhereGood = (P : Network) (bytes : List ℕ) (r : Record) (l : ℕ) (kind : RecordFault) → Spells r bytes → GoodRecord P r → Fault P bytes l kind → ⊥

-- Every text spells a good record, or has a fault.
abbrev pub GoodOrFault : Type 0
GoodOrFault = (P : Network) (bytes : List ℕ) → ((r : Record) × Spells r bytes × GoodRecord P r) ⊎ ((l : ℕ) × (kind : RecordFault) × Fault P bytes l kind)

-- Where all lines of a text are right, they are those of a good record that it spells.
abbrev pub WholeTexts : Type 0
WholeTexts = (P : Network) (bytes : List ℕ) (ls : List RecordLine) → HasPassed P bytes [] ls AtOver → (r : Record) × Spells r bytes × GoodRecord P r × (lines_of r ≡ ls)

-- One right line more leaves all right.
abbrev pub OneMorePasses : Type 0
OneMorePasses = (P : Network) (bytes rest more : List ℕ) (front : List RecordLine) (s t : State) (l : RecordLine) → HasPassed P bytes rest front s → Passes P front s l more t → rest ≡ bytes_of l ++ more → HasPassed P bytes more (front ++ l ∷ []) t

-- An entry that can be done leaves all right behind its lines, and the lines come to the pool that it leaves.
abbrev pub EntryPasses : Type 0
EntryPasses = (P : Network) (bytes more : List ℕ) (front : List RecordLine) (pool new : Pool) (entry : Entry) → HasPassed P bytes (text_of (lines_of_entry entry) ++ more) front (AtEvents []) → ComesTo P front [] pool → Follows P pool entry new
    → AllByRecursion IsSpelledLine (lines_of_entry entry) → HasPassed P bytes more (front ++ lines_of_entry entry) (AtEvents []) × ComesTo P (front ++ lines_of_entry entry) [] new

-- Where a piece's lines stop before its last one, and no line stands behind them that may come, no whole piece stands there.
abbrev pub NoWholePiece : Type 0
NoWholePiece = (ls : List Line) (path : List Event) (paths : List (List Event)) (more : List ℕ) (tree : Tree) → lines.Runs (lines.AtNodes Second ([] ∷ [])) ls (lines.AtNodes Second (path ∷ paths)) → AllByRecursion IsSpelledLine (said ls)
    → NoneComes (AtEvents (path ∷ paths)) more → StandsFirst (text_of (said ls) ++ more) tree → ⊥

-- Lines that come to one pool come to no other, as far as tree, numbers, budget, nodes and the threshold seen go.
abbrev pub ComesOnce : Type 0
ComesOnce = (P : Network) (front : List RecordLine) (pool other : Pool) → ComesTo P front [] pool → ComesTo P front [] other → IsSame pool other
