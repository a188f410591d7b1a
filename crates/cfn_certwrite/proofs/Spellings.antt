-- The lines of a record have a spelling.
use Rattle.std.proofs.Common.{◌≤◌, List, [], ◌∷◌, ◌++◌, Option, Some, None, refl}
use Rattle.std.specs.List.{AllByRecursion}
use Rattle.cfn_model.specs.Words.{greatest}
use Rattle.cfn_model.specs.Certificate.{Solution}
use Rattle.cfn_model.specs.Text.{IsSpelledBest}
use Rattle.cfn_fault.specs.Lines as lines
use Rattle.cfn_proof.specs.declared.certificate.Certificate.{Certificate}
use Rattle.cfn_proof.specs.Certificates.{solution_of}
use Rattle.cfn_record.specs.Entries.{Entry}
use Rattle.cfn_record.specs.Lines.{RecordLine, Says, IsSpelledLine, Spells, lines_of_entry, lines_of_entries, lines_of_best}
use Rattle.cfn_record.specs.Histories.{HistoryValue, IsSpelledEntry, entries_of}
use Rattle.cfn_certwrite.specs.Records.{recorded, spelling}

both_spelled : (ls more : List RecordLine) → AllByRecursion IsSpelledLine ls → AllByRecursion IsSpelledLine more → AllByRecursion IsSpelledLine (ls ++ more)
both_spelled [] more one two = two
both_spelled (l ∷ ls) more one two = (one.0, both_spelled ls more one.1 two)

entries_spelled : (entries : List Entry) → AllByRecursion IsSpelledEntry entries → AllByRecursion IsSpelledLine (lines_of_entries entries)
entries_spelled [] all = tt
entries_spelled (entry ∷ entries) all = both_spelled (lines_of_entry entry) (lines_of_entries entries) all.0 (entries_spelled entries all.1)

best_spelled : (best : Option Solution) → IsSpelledBest best → AllByRecursion IsSpelledLine (lines_of_best best)
best_spelled None spelled = (tt, tt)
best_spelled (Some best) spelled = (spelled.0, ((spelled.1, spelled.2), tt))

-- the whole record
pub record_spelled : (h : HistoryValue) (c : Certificate) → h.budget ≤ greatest → AllByRecursion IsSpelledEntry (entries_of h) → c.variables ≤ greatest → c.functions ≤ greatest → IsSpelledBest (solution_of c.best) → Spells (recorded h c) (spelling (recorded h c))
record_spelled h c budget entries variables functions best =
    let behind = both_spelled (lines_of_best (solution_of c.best)) (Says lines.End ∷ []) (best_spelled (solution_of c.best) best) (tt, tt) in
    record {
      spelled = (tt, ((variables, functions, c.upper_fits), ((budget, tt), both_spelled (lines_of_entries (entries_of h)) _ (entries_spelled (entries_of h) entries) behind)));
      exact = refl;
    }
