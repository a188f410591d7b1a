-- What is said of records that are replayed.
use Rattle.std.specs.Prelude.{ℕ, List, [], ◌∷◌, codes, decimal}
use Rattle.cfn_model.specs.Text.{line}
use Rattle.cfn_record.specs.declared.kind.RecordFault.{RecordFault}
use Rattle.cfn_record.specs.declared.kind.RecordFault.TheVariants as kinds

-- What is said of a record whose certificate was written.
abbrev pub replayed_text : List ℕ
replayed_text = line (codes "replayed" ∷ [])

-- The name of the way in which a record's line fails.
abbrev pub record_fault_name : RecordFault → List ℕ
record_fault_name kinds.Text = codes "text"
record_fault_name kinds.Network = codes "network"
record_fault_name kinds.Take = codes "take"
record_fault_name kinds.Give = codes "give"
record_fault_name kinds.Back = codes "back"
record_fault_name kinds.Seen = codes "seen"
record_fault_name kinds.Certificate = codes "certificate"

-- What is said of a record that is refused: how its first line that fails does so.
abbrev pub record_refused_text : RecordFault → ℕ → List ℕ
record_refused_text kind l = line (codes "refused" ∷ record_fault_name kind ∷ codes "at" ∷ decimal l ∷ [])
