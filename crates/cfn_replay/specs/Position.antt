-- How far a text was read, and what the next line of it is.
use Rattle.std.specs.Prelude.{◌≡◌, ℕ, ◌+◌, ◌<◌, List, ◌++◌, length, Option, Some, None}
use Rattle.cfn_model.specs.Network.{Network}
use Rattle.cfn_record.specs.Lines.{RecordLine, bytes_of, IsSpelledLine, State}
use Rattle.cfn_record.specs.Fault.{HasPassed}

-- A text, the bytes behind the lines that were read, and the number of those.
pub record Position : Type 0 where
  pub text : List ℕ
  pub rest : List ℕ
  pub count : ℕ

-- A line stands there and was read.
pub record IsRead (old new : Position) (l : RecordLine) : Type 0 where
  pub text : new.text ≡ old.text
  pub count : new.count ≡ old.count + 1
  pub spelled : IsSpelledLine l
  pub rest : old.rest ≡ bytes_of l ++ new.rest
  pub less : length new.rest < length old.rest

-- What was read: the next line, or that none of a record stands there.
abbrev pub Tells : Position → Position → Option RecordLine → Type 0
Tells old new None = (l : RecordLine) (more : List ℕ) → IsSpelledLine l → old.rest ≡ bytes_of l ++ more → ⊥
Tells old new (Some l) = IsRead old new l

-- These lines were read, are right, and lead to a state.
pub record At (P : Network) (r : Position) (front : List RecordLine) (s : State) : Type 0 where
  pub count : r.count ≡ length front
  pub passed : HasPassed P r.text r.rest front s
