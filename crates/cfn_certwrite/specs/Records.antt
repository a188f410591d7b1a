-- The record of a search that has this history and found this certificate, and its text.
use Rattle.std.specs.Prelude.{ℕ, List, [], ◌∷◌}
use Rattle.cfn_fault.specs.Lines as lines
use Rattle.cfn_proof.specs.declared.certificate.Certificate.{Certificate}
use Rattle.cfn_proof.specs.Certificates.{solution_of}
use Rattle.cfn_record.specs.Lines.{Record, RecordLine, Heading, Budget, Says, text_of, lines_of}
use Rattle.cfn_record.specs.Histories.{HistoryValue, entries_of}

-- The history has the budget and the entries, and the certificate the network's numbers and the best assignment.
abbrev pub recorded : HistoryValue → Certificate → Record
recorded h c = record {
  variables = c.variables;
  functions = c.functions;
  upper = c.upper;
  budget = h.budget;
  entries = entries_of h;
  best = solution_of c.best;
}

-- The text of a record: its lines.
abbrev pub spelling : Record → List ℕ
spelling r = text_of (lines_of r)

-- The lines before what was done.
abbrev pub head_lines : ℕ → Certificate → List RecordLine
head_lines budget c = Heading ∷ Says (lines.Numbers c.variables c.functions c.upper) ∷ Budget budget ∷ []
