-- A desk in memory, as its caller sees it.
use Rattle.std.specs.Prelude.{◌≡◌, ℕ, ◌==◌, List, [], ◌∷◌, Bool, ◌++◌, Option, Some, None}
use Rattle.std.specs.List.{list_any}
use Rattle.cfn_desk.specs.NamedFiles.{file_named}
use Rattle.cfn_desk.specs.Outside.{Call, Files, Written, Idle, Writing, Spoiled}
use Rattle.cfn_desk.specs.Slot.{file_in, slot_of}
use Rattle.cfn_desk.specs.SureDesk.{counted}
use Rattle.cfn_desk.specs.declared.memory.Second.{Second}
use Rattle.cfn_desk.specs.declared.memory.Second.TheVariants.{Absent, Later, Earlier}
use Rattle.cfn_desk.specs.declared.slot.Slot.{Slot}
use Rattle.cfn_desk.specs.declared.slot.Stage.TheVariants.{Kept}

pub record InMemory : Type 0 where
  -- the files given, each as its name and its bytes
  pub given : List (List ℕ × List ℕ)
  -- the files that were written and closed, the newest first
  pub stored : List (List ℕ × List ℕ)
  -- the calls, the newest first
  pub calls : List Call
  -- how many calls were made that may fail, up to the last value of a count
  pub made : ℕ
  -- the ordinals of the calls that are to fail, from 1
  pub failing : List ℕ
  -- how many bytes the first written file may have
  pub out_room : ℕ
  -- how many bytes a second written file may have, where there may be one
  pub second_room : Option ℕ
  -- how many bytes may be said
  pub said_room : ℕ

-- A file that was written hides earlier ones, and one that was given, under its name.
abbrev pub files_of : InMemory → Files
files_of desk = file_named (desk.stored ++ desk.given)

-- How many bytes the next file may have behind those that were closed, where there may be one more.
abbrev pub room_behind : List (List ℕ × List ℕ) → ℕ → Option ℕ → Option ℕ
room_behind [] out second = Some out
room_behind (file ∷ []) out second = second
room_behind (file ∷ other ∷ files) out second = None

-- How many bytes the file being written, or else the next one, may have, where there may be one.
abbrev pub room_left : InMemory → Option ℕ
room_left desk = room_behind desk.stored desk.out_room desk.second_room

-- whether the next call is one of those that are to fail
abbrev pub fails_next : InMemory → Bool
fails_next desk = list_any (λ ordinal. ordinal == counted desk.made 1) desk.failing

-- the desk after a call that may fail, which changed no file
abbrev pub after_call : List Call → InMemory → InMemory
after_call calls desk = record desk { calls = calls; made = counted desk.made 1 }

-- the bytes of a file being written, and nothing where there is none
abbrev pub bytes_of : Written → List ℕ
bytes_of Idle = []
bytes_of (Writing name bytes) = bytes
bytes_of Spoiled = []

-- the file being written, as its name and its bytes, in a list
abbrev pub files_in : Written → List (List ℕ × List ℕ)
files_in Idle = []
files_in (Writing name bytes) = (name, bytes) ∷ []
files_in Spoiled = []

-- The files that were closed, the newest first: the one in the room in use, and the one before it.
abbrev pub stored_in : Second → Slot → Slot → List (List ℕ × List ℕ)
stored_in Absent slot other = file_in slot
stored_in Later slot other = file_in slot
stored_in Earlier slot other = file_in slot ++ file_in other

-- how many bytes the first file may have
abbrev pub first_room : Second → Slot → Slot → ℕ
first_room Absent slot other = slot.bytes.limit
first_room Later slot other = slot.bytes.limit
first_room Earlier slot other = other.bytes.limit

-- how many bytes the second file may have, where there may be one
abbrev pub later_room : Second → Slot → Slot → Option ℕ
later_room Absent slot other = None
later_room Later slot other = Some other.bytes.limit
later_room Earlier slot other = Some slot.bytes.limit

-- Room that is not in use is empty before its file, and has the file behind it.
abbrev pub IsWaiting : Second → Slot → Type 0
IsWaiting Absent other = other ≡ slot_of other.bytes.limit
IsWaiting Later other = other ≡ slot_of other.bytes.limit
IsWaiting Earlier other = other.stage ≡ Kept
