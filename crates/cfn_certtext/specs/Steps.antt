-- One line at the front of the rest of a text, where a line is due.
use Rattle.std.specs.Prelude.{◌≡◌, ℕ, ◌<◌, ◌≤◌, List, ◌++◌, length, drop, Some}
use Rattle.cfn_fault.specs.Fault.{line_at}
use Rattle.cfn_fault.specs.Lines.{Line, bytes_of, IsSpelledLine}
use Rattle.cfn_certtext.specs.declared.event.Item.{Item}
use Rattle.cfn_certtext.specs.declared.stage.Stage.{Stage}
use Rattle.cfn_certtext.specs.Reading.{item_of, values_behind}
use Rattle.cfn_certtext.specs.Stages.{next_stage}

-- A line stands there, so long, that may come; what is due behind it, its first event, and its other values.
pub record IsNextLine (rest : List ℕ) (stage : Stage) (long : ℕ) (next : Stage) (item : Item) (left : List ℕ) : Type 0 where
  pub line : Line
  pub spelled : IsSpelledLine line
  pub bytes : rest ≡ bytes_of line ++ drop long rest
  pub some : 0 < long
  pub within : long ≤ length rest
  pub follows : next_stage stage line ≡ Some next
  pub tells : item ≡ item_of line
  pub others : left ≡ values_behind line

-- No line stands there that may come.
abbrev pub IsNoLine : List ℕ → Stage → Type 0
IsNoLine rest stage = (l : Line) (next : Stage) → IsSpelledLine l → next_stage stage l ≡ Some next → line_at rest 0 ≡ bytes_of l → ⊥
