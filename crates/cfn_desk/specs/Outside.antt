-- The outside as a desk's caller sees it: the calls that were made, and the named files where the desk tells them.
use Rattle.std.specs.Prelude.{◌≡◌, ◌≢◌, ◌⊎◌, ℕ, suc, Bool, true, false, List, [], ◌∷◌, ◌++◌, Option, Some, Result, Ok, Err, IfSome, IsSomeAnd}
use Rattle.cfn_desk.specs.declared.interface.LoadFault.{LoadFault}
use Rattle.cfn_desk.specs.declared.interface.LoadFault.TheVariants.{Failed, Memory}

-- How a load was answered: with the file's bytes, not at all, or for want of memory.
pub data Loaded : Type 0 where
  Bytes : (bytes : List ℕ) → Loaded
  Unreadable : Loaded
  NoMemory : Loaded

-- A call, or one byte of a call that puts or says bytes. A piece that failed is one call: some front of it came out.
pub data Call : Type 0 where
  Load : (name : List ℕ) (answer : Loaded) → Call
  Open : (name : List ℕ) (opened : Bool) → Call
  Put : (byte : ℕ) → Call
  FailedPut : (piece : List ℕ) → Call
  Close : (closed : Bool) → Call
  Discard : Call
  Say : (byte : ℕ) → Call
  FailedSay : (piece : List ℕ) → Call

-- The calls, the newest first, after these bytes were put, and after they were said.
abbrev pub puts : List ℕ → List Call → List Call
puts [] calls = calls
puts (byte ∷ bytes) calls = puts bytes (Put byte ∷ calls)

abbrev pub says : List ℕ → List Call → List Call
says [] calls = calls
says (byte ∷ bytes) calls = says bytes (Say byte ∷ calls)

-- How many calls failed. Want of memory is no failure.
abbrev pub faults : List Call → ℕ
faults [] = 0
faults (Load name (Bytes bytes) ∷ calls) = faults calls
faults (Load name Unreadable ∷ calls) = suc (faults calls)
faults (Load name NoMemory ∷ calls) = faults calls
faults (Open name true ∷ calls) = faults calls
faults (Open name false ∷ calls) = suc (faults calls)
faults (Put byte ∷ calls) = faults calls
faults (FailedPut piece ∷ calls) = suc (faults calls)
faults (Close true ∷ calls) = faults calls
faults (Close false ∷ calls) = suc (faults calls)
faults (Discard ∷ calls) = faults calls
faults (Say byte ∷ calls) = faults calls
faults (FailedSay piece ∷ calls) = suc (faults calls)

-- The file that is being written: none, one of that name with these bytes, or one of which a piece failed.
pub data Written : Type 0 where
  Idle : Written
  Writing : (name bytes : List ℕ) → Written
  Spoiled : Written

-- the file being written, with a byte behind its bytes
abbrev pub with_byte : ℕ → Written → Written
with_byte byte Idle = Idle
with_byte byte (Writing name bytes) = Writing name (bytes ++ (byte ∷ []))
with_byte byte Spoiled = Spoiled

abbrev pub written : List Call → Written
written [] = Idle
written (Load name answer ∷ calls) = written calls
written (Open name true ∷ calls) = Writing name []
written (Open name false ∷ calls) = Idle
written (Put byte ∷ calls) = with_byte byte (written calls)
written (FailedPut piece ∷ calls) = Spoiled
written (Close closed ∷ calls) = Idle
written (Discard ∷ calls) = Idle
written (Say byte ∷ calls) = written calls
written (FailedSay piece ∷ calls) = written calls

-- No file is being written.
abbrev pub IsIdle : List Call → Type 0
IsIdle calls = written calls ≡ Idle

-- A file is being written, and no piece of it failed.
abbrev pub IsWritten : Written → Type 0
IsWritten Idle = ⊥
IsWritten (Writing name bytes) = Unit {0}
IsWritten Spoiled = ⊥

abbrev pub IsWriting : List Call → Type 0
IsWriting calls = IsWritten (written calls)

-- The bytes said, in their order, but for pieces that failed.
abbrev pub said : List Call → List ℕ
said [] = []
said (Load name answer ∷ calls) = said calls
said (Open name opened ∷ calls) = said calls
said (Put byte ∷ calls) = said calls
said (FailedPut piece ∷ calls) = said calls
said (Close closed ∷ calls) = said calls
said (Discard ∷ calls) = said calls
said (Say byte ∷ calls) = said calls ++ (byte ∷ [])
said (FailedSay piece ∷ calls) = said calls

-- the named files: from a name's bytes to a file's bytes
abbrev pub Files : Type 0
Files = List ℕ → Option (List ℕ)

pub record Outside : Type 0 where
  -- the calls, the newest first
  pub calls : List Call
  -- the named files, where the desk tells them
  pub files : Option Files

-- The outside after one call more that changed no file.
abbrev pub after : Call → Outside → Outside
after call outside = record { calls = call ∷ outside.calls; files = outside.files }

-- How a load was answered, by its result and the bytes that it left.
abbrev pub answer_of : {T : Type 0} → Result T LoadFault → List ℕ → Loaded
answer_of (Ok _) bytes = Bytes bytes
answer_of (Err Failed) bytes = Unreadable
answer_of (Err Memory) bytes = NoMemory

-- The calls after a piece was put, and after one was said.
abbrev pub after_put : {T E : Type 0} → List ℕ → Result T E → List Call → List Call
after_put piece (Ok _) calls = puts piece calls
after_put piece (Err _) calls = FailedPut piece ∷ calls

abbrev pub after_say : {T E : Type 0} → List ℕ → Result T E → List Call → List Call
after_say piece (Ok _) calls = says piece calls
after_say piece (Err _) calls = FailedSay piece ∷ calls

-- Where the desk told its files, the file of that name has these bytes.
abbrev pub HasFile : Outside → List ℕ → List ℕ → Type 0
HasFile outside name bytes = IfSome outside.files (λ files. files name ≡ Some bytes)

-- The name has the bytes now, and every other name has what it had.
pub record Stores (before : Files) (name bytes : List ℕ) (now : Files) : Type 0 where
  pub here : now name ≡ Some bytes
  pub others : (other : List ℕ) → other ≢ name → now other ≡ before other

-- Where the files were told, they are told still, and have the file that was written.
abbrev pub Stored : Option Files → Written → Option Files → Type 0
Stored before Idle now = ⊥
Stored before (Writing name bytes) now = IfSome before (λ files. IsSomeAnd now (Stores files name bytes))
Stored before Spoiled now = ⊥

-- The same, or the files are as they were.
abbrev pub StoredOrSame : Option Files → Written → Option Files → Type 0
StoredOrSame before file now = (now ≡ before) ⊎ Stored before file now
