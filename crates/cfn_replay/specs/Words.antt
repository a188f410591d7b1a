-- The lines that are a record's own, by their words, a number at a time.
use Rattle.std.specs.Prelude.{ℕ, List, Option, codes, if◌then◌else◌}
use Rattle.std.specs.Str.{bytes_eq}
use Rattle.cfn_fault.specs.Decoding.{◌>>=◌, number_from, at_end}
use Rattle.cfn_record.specs.Lines.{RecordLine, Budget, Take, Give, Back, Recall, Sweep}
use Rattle.cfn_record.specs.Decoding.{heading_line, certificate_line}

unfoldable pub budget_line : List (List ℕ) → Option RecordLine
budget_line words = do
  budget ← number_from words
  at_end (Budget budget.0) budget.1

unfoldable pub take_line : List (List ℕ) → Option RecordLine
take_line words = do
  worker ← number_from words
  want ← number_from worker.1
  leaf ← number_from want.1
  grant ← number_from leaf.1
  at_end (Take worker.0 want.0 leaf.0 grant.0) grant.1

unfoldable pub give_line : List (List ℕ) → Option RecordLine
give_line words = do
  worker ← number_from words
  leaf ← number_from worker.1
  grant ← number_from leaf.1
  threshold ← number_from grant.1
  seen ← number_from threshold.1
  at_end (Give worker.0 leaf.0 grant.0 threshold.0 seen.0) seen.1

unfoldable pub back_line : List (List ℕ) → Option RecordLine
back_line words = do
  worker ← number_from words
  leaf ← number_from worker.1
  grant ← number_from leaf.1
  at_end (Back worker.0 leaf.0 grant.0) grant.1

unfoldable pub sweep_line : List (List ℕ) → Option RecordLine
sweep_line words = do
  seen ← number_from words
  at_end (Sweep seen.0) seen.1

-- The line that a first word and others behind it say.
unfoldable pub said_by : List ℕ → List (List ℕ) → Option RecordLine
said_by word words =
    if bytes_eq word (codes "wcsprecord") then heading_line words
    else if bytes_eq word (codes "budget") then budget_line words
    else if bytes_eq word (codes "take") then take_line words
    else if bytes_eq word (codes "give") then give_line words
    else if bytes_eq word (codes "back") then back_line words
    else if bytes_eq word (codes "recall") then at_end Recall words
    else if bytes_eq word (codes "sweep") then sweep_line words
    else certificate_line word words
