-- Room for one file that is written.
use Rattle.std.specs.Prelude.{ℕ, List, [], ◌∷◌}
use Rattle.cfn_desk.specs.Outside.{Written, Idle, Writing, Spoiled}
use Rattle.cfn_desk.specs.Room.{Bounded}
use Rattle.cfn_desk.specs.declared.slot.Slot.{Slot}
use Rattle.cfn_desk.specs.declared.slot.Stage.{Stage}
use Rattle.cfn_desk.specs.declared.slot.Stage.TheVariants.{Empty, Begun, Cut, Kept}
use Rattle.cfn_desk.specs.declared.slot.TheConstants.{NAME_ROOM}

-- room with no file, for that many bytes
abbrev pub slot_of : ℕ → Slot
slot_of limit = record {
  stage = Empty;
  name = record { bytes = []; limit = NAME_ROOM };
  bytes = record { bytes = []; limit = limit };
}

-- the file in the room for one, while it is being written
abbrev pub written_at : Stage → Bounded → Bounded → Written
written_at Empty name bytes = Idle
written_at Begun name bytes = Writing name.bytes bytes.bytes
written_at Cut name bytes = Spoiled
written_at Kept name bytes = Idle

-- the file in the room for one, once it is closed, in a list
abbrev pub stored_at : Stage → Bounded → Bounded → List (List ℕ × List ℕ)
stored_at Empty name bytes = []
stored_at Begun name bytes = []
stored_at Cut name bytes = []
stored_at Kept name bytes = (name.bytes, bytes.bytes) ∷ []

abbrev pub written_in : Slot → Written
written_in slot = written_at slot.stage slot.name slot.bytes

abbrev pub file_in : Slot → List (List ℕ × List ℕ)
file_in slot = stored_at slot.stage slot.name slot.bytes
