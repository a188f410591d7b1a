-- What a pool records of what is done to it.
use Rattle.std.specs.Prelude.{◌≡◌, ℕ, ◌+◌, ◌-◌, ◌<◌, ◌≤◌, ◌^◌, min, List, [], ◌∷◌, ◌++◌, map, Option, Some, None, IfSome, IsSomeAnd}
use Rattle.cfn_model.specs.Network.{Network}
use Rattle.cfn_proof.specs.Nodes.{tree_of}
use Rattle.cfn_machine.specs.Pool.{Mark, Free, Out, PoolTree, Leaf, Shut, Fork, Pool}
use Rattle.cfn_record.specs.Entries.{Entry, Took, Gave, Freed, CalledBack, Swept, Runs, IsAlike}
use Rattle.cfn_record.specs.Lines.{AreSpelled}
use Rattle.cfn_record.specs.Replaying.{opening}
use Rattle.cfn_record.specs.declared.happened.Happened.{Happened}
use Rattle.cfn_record.specs.Histories.{HistoryValue, entry_of}
use Rattle.cfn_explore.specs.Values.{PieceValue}
use Rattle.cfn_leaves.specs.declared.taking.Taken.{Taken}
use Rattle.cfn_leaves.specs.declared.taking.Taken.TheVariants.{Given, Empty, Spent, Again, Memory}
use Rattle.cfn_pool.specs.declared.recording.PieceCopy.{PieceCopy}
use Rattle.cfn_pool.specs.declared.recording.Recording.{Recording}
use Rattle.cfn_pool.specs.declared.recording.Recording.TheVariants.{Off, On}

-- How many nodes the search may make, and what was done to the pool, the first first.
pub record Recorded : Type 0 where
  pub budget : ℕ
  pub happened : List Happened

-- The entries of a record that this is.
abbrev pub entries_in : Recorded → List Entry
entries_in r = map entry_of r.happened

-- What a history says of that.
abbrev pub told_by : HistoryValue → Recorded
told_by h = record { budget = h.budget; happened = h.happened }

-- What is recorded, how many leaves are out, and for how many more entries there is room besides two for each of those.
pub record RecordingValue : Type 0 where
  pub told : Recorded
  pub out : ℕ
  pub spare : ℕ

abbrev pub value_of : Recording → Option RecordingValue
value_of Off = None
value_of (On history out spare) = Some (record { told = told_by history; out = out; spare = spare })

abbrev pub told_in : Option RecordingValue → Option Recorded
told_in None = None
told_in (Some r) = Some r.told

abbrev pub record_of : Option HistoryValue → Option Recorded
record_of None = None
record_of (Some history) = Some (told_by history)

-- Where a record is kept, there is room for so many more entries besides two for each leaf that is out.
abbrev pub HasSpare : ℕ → Option RecordingValue → Type 0
HasSpare n r = IfSome r (λ v. n ≤ v.spare)

-- How many leaves of a tree are out.
abbrev pub out_of : Mark → ℕ
out_of Free = 0
out_of (Out worker grant) = 1

abbrev pub outs : PoolTree → ℕ
outs (Leaf number mark block) = out_of mark
outs (Shut block) = 0
outs (Fork block d first second) = outs first + outs second

-- It makes a pool of the opening, which is alike the one that is there.
pub record IsRecordOf (P : Network) (pool : Pool) (r : Recorded) : Type 0 where
  pub budget_is : r.budget ≡ pool.budget
  pub left : Pool
  pub run : Runs P (opening P r.budget) (entries_in r) left
  pub alike : IsAlike pool left

-- The pool that it makes has seen the same threshold too.
pub record IsExactRecordOf (P : Network) (pool : Pool) (r : Recorded) : Type 0 where
  pub is : IsRecordOf P pool r
  pub seen : is.left.view.seen ≡ pool.view.seen

-- How many leaves are out after an entry.
abbrev pub out_after : Entry → ℕ → ℕ
out_after (Took worker want leaf grant) out = out + 1
out_after (Gave worker leaf grant threshold seen tree) out = out - 1
out_after (Freed worker leaf grant) out = out - 1
out_after CalledBack out = 0
out_after (Swept seen) out = out

-- For how many more there is room besides then: a leaf that is not out any more leaves the room of one, up to three.
abbrev pub spare_after : Entry → ℕ → ℕ
spare_after (Took worker want leaf grant) spare = spare
spare_after (Gave worker leaf grant threshold seen tree) spare = min (spare + 1) 3
spare_after (Freed worker leaf grant) spare = min (spare + 1) 3
spare_after CalledBack spare = spare - 1
spare_after (Swept seen) spare = spare - 1

-- One more entry is recorded.
pub record HasMore (r : RecordingValue) (entry : Entry) (more : RecordingValue) : Type 0 where
  pub budget_is : more.told.budget ≡ r.told.budget
  pub entries_are : entries_in more.told ≡ entries_in r.told ++ entry ∷ []
  pub out_is : more.out ≡ out_after entry r.out
  pub spare_is : more.spare ≡ spare_after entry r.spare

-- Where a record is kept, one more entry is recorded; where none is, none is kept afterwards.
abbrev pub Adds : Option RecordingValue → Entry → Option RecordingValue → Type 0
Adds None entry None = Unit {0}
Adds None entry (Some more) = ⊥
Adds (Some r) entry None = ⊥
Adds (Some r) entry (Some more) = HasMore r entry more

-- The same where a leaf was taken; else nothing changes.
abbrev pub AddsTaken : Option RecordingValue → ℕ → ℕ → Taken → Option RecordingValue → Type 0
AddsTaken old worker want (Given task) new = Adds old (Took worker want task.task.leaf task.task.grant) new
AddsTaken old worker want Empty new = new ≡ old
AddsTaken old worker want Spent new = new ≡ old
AddsTaken old worker want Again new = new ≡ old
AddsTaken old worker want Memory new = new ≡ old

-- Each number that is recorded of a leaf that was taken has a spelling.
abbrev pub IsSpelledTaken : ℕ → Taken → Type 0
IsSpelledTaken want (Given task) = AreSpelled (want ∷ task.task.leaf ∷ task.task.grant ∷ [])
IsSpelledTaken want Empty = Unit {0}
IsSpelledTaken want Spent = Unit {0}
IsSpelledTaken want Again = Unit {0}
IsSpelledTaken want Memory = Unit {0}

-- What is recorded of a piece.
pub record IsCopyOf (piece : PieceValue) (copy : PieceCopy) : Type 0 where
  pub worker : copy.worker ≡ piece.task.worker
  pub leaf : copy.leaf ≡ piece.task.leaf
  pub grant : copy.grant ≡ piece.task.grant
  pub threshold : copy.threshold ≡ piece.threshold
  pub tree : copy.tree ≡ piece.nodes

-- The entry of a piece that was given, and the pool has seen this threshold afterwards.
abbrev pub gave : PieceValue → ℕ → Entry
gave piece seen = Gave piece.task.worker piece.task.leaf piece.task.grant piece.threshold seen (tree_of piece.nodes)

-- There is a copy of a piece exactly where a record is kept.
abbrev pub IsCopied : Option RecordingValue → PieceValue → Option PieceCopy → Type 0
IsCopied None piece copy = copy ≡ None
IsCopied (Some r) piece copy = IsSomeAnd copy (IsCopyOf piece)

-- ---- the room of a recording

-- How many entries are promised: two for each leaf that is out, and what is spare.
abbrev pub promised : (out spare : ℕ) → ℕ
promised out spare = spare + (out + out)

-- There is room for what is promised and so many more, and a number for it.
abbrev pub HasRoom : ℕ → Recording → Type 0
HasRoom more Off = Unit {0}
HasRoom more (On history out spare) = (more + promised out spare ≤ history.room) × (more + promised out spare < 2 ^ 64)

-- There is room for an entry and for what is promised after it.
abbrev pub HasRoomFor : Entry → Recording → Type 0
HasRoomFor entry Off = Unit {0}
HasRoomFor entry (On history out spare) =
    (promised (out_after entry out) (spare_after entry spare) < history.room) × (promised (out_after entry out) (spare_after entry spare) < 2 ^ 64)
