-- What a list that a search hands out means.
use Rattle.std.specs.Prelude.{ℕ, List, map}
use Rattle.cfn_model.specs.Certificate.{Solution}
use Rattle.cfn_best.specs.List.{ListCertificate}
use Rattle.cfn_best.specs.Lines.{text_of, lines_of}
use Rattle.cfn_ranking.specs.declared.list.Listed.{Listed}
use Rattle.cfn_ranking.specs.declared.list.BestCertificate.{BestCertificate}
use Rattle.cfn_ranking.specs.Trees.{listed_of}

-- A listed assignment as a solution, and all of them.
abbrev pub solution_of : Listed → Solution
solution_of listed = record { cost = listed.cost; values = listed.values.items }

abbrev pub solutions_of : List Listed → List Solution
solutions_of list = map solution_of list

abbrev pub list_certificate_of : BestCertificate → ListCertificate
list_certificate_of c = record {
  variables = c.variables;
  functions = c.functions;
  upper = c.upper;
  count = c.count;
  lower = c.lower;
  list = solutions_of c.list.items;
  tree = listed_of c.tree c.numbers.items;
}

-- The text of a list: its lines.
abbrev pub spelling : ListCertificate → List ℕ
spelling c = text_of (lines_of c)
