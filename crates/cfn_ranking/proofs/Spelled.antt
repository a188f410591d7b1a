-- The lines of a list have a spelling.
use Rattle.std.proofs.Common.{◌≡◌, suc, ◌<◌, ◌≤◌, List, [], ◌∷◌, length, map, refl, ap, arith}
use Rattle.std.specs.List.{AllByRecursion}
use Rattle.cfn_model.specs.Words.{greatest}
use Rattle.cfn_fault.specs.Lines as lines
use Rattle.cfn_proof.specs.Nodes.{IsTree}
use Rattle.cfn_best.specs.Lines.{Says, IsSpelledLine, Spells, line_of_solution, lines_of_tree}
use Rattle.cfn_ranking.specs.declared.list.Listed.{Listed}
use Rattle.cfn_ranking.specs.declared.list.BestCertificate.{BestCertificate}
use Rattle.cfn_ranking.specs.Trees.{listed_of}
use Rattle.cfn_ranking.specs.Certificates.{solutions_of, list_certificate_of, spelling}
use Rattle.cfn_ranking.proofs.WholeTree.{both_spelled, spelled_law}

solutions_spelled : (list : List Listed) → AllByRecursion IsSpelledLine (map line_of_solution (solutions_of list))
solutions_spelled [] = tt
solutions_spelled (l ∷ list) = ((omega arith, (l.cost_fits, l.values_fit)), solutions_spelled list)

values_some : (list : List Listed) → AllByRecursion (λ s. 0 < length s.values) (solutions_of list)
values_some [] = tt
values_some (l ∷ list) = (l.values_some, values_some list)

-- as many solutions as listed assignments
pub length-solutions_of : (list : List Listed) → length (solutions_of list) ≡ length list
length-solutions_of [] = refl
length-solutions_of (l ∷ list) = ap suc (length-solutions_of list)

pub spelled_list : (c : BestCertificate) → IsTree c.tree → c.variables ≤ greatest → c.functions ≤ greatest → Spells (list_certificate_of c) (spelling (list_certificate_of c))
spelled_list c tree variables functions =
    let fits = c.list_fits in
    let tree_lines = spelled_law c.tree c.numbers.items tree (λ i j there free is. omega (arith, c.numbers_there i j there free is, fits, c.count_fits)) in
    record {
      spelled = record {
        lines = (tt, ((variables, functions, c.upper_fits), ((c.count_some, c.count_fits), (c.lower_fits, (omega (arith, length-solutions_of c.list.items, fits, c.count_fits), both_spelled (map line_of_solution (solutions_of c.list.items)) _ (solutions_spelled c.list.items) (tt, both_spelled (lines_of_tree (listed_of c.tree c.numbers.items)) (Says lines.End ∷ []) tree_lines (tt, tt)))))));
        values = values_some c.list.items;
      };
      exact = refl;
    }
