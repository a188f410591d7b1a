-- The parts of a list's text: its first lines, and the lines of each node of its tree.
use Rattle.std.specs.Prelude.{ℕ, List, [], ◌∷◌, ◌++◌, length, map, flat_map, Option, Some, None}
use Rattle.cfn_fault.specs.Nodes.{Makes, LeavesOpen, Closes, Splits}
use Rattle.cfn_fault.specs.Lines as lines
use Rattle.cfn_proof.specs.declared.tree.End.{End}
use Rattle.cfn_proof.specs.declared.tree.End.TheVariants.{Free, Shut, Split}
use Rattle.cfn_proof.specs.declared.tree.Node.{Node}
use Rattle.cfn_proof.specs.Nodes.{node_at}
use Rattle.cfn_best.specs.List.{ListCertificate}
use Rattle.cfn_best.specs.Lines.{ListLine, Heading, Count, Lists, Says, words_of, line_of_solution}
use Rattle.cfn_ranking.specs.declared.list.Listed.{Listed}
use Rattle.cfn_ranking.specs.Trees.{number_at}
use Rattle.cfn_ranking.specs.Certificates.{solution_of}

-- The lines before the listed assignments.
abbrev pub head_lines : ListCertificate → List ListLine
head_lines c = Heading ∷ Says (lines.Numbers c.variables c.functions c.upper) ∷ Count c.count ∷ Says (lines.Lower c.lower) ∷ Says (lines.Best (length c.list)) ∷ []

-- The words of a listed assignment's line.
abbrev pub listed_words : Listed → List (List ℕ)
listed_words listed = words_of (line_of_solution (solution_of listed))

-- The last line of an open leaf, with the number beside it: open, or listed. And that of each node.
abbrev pub leaf_line : Option ℕ → ListLine
leaf_line None = Says (lines.Node LeavesOpen)
leaf_line (Some j) = Lists j

abbrev pub last_line : End → Option ℕ → ListLine
last_line Free number = leaf_line number
last_line Shut number = Says (lines.Node Closes)
last_line (Split d first second) number = Says (lines.Node (Splits d))

-- All lines of a node, and those of nodes, one behind the other.
abbrev pub node_lines : Node → Option ℕ → List ListLine
node_lines node number = map (λ step. Says (lines.Node (Makes step))) node.block ++ last_line node.end number ∷ []

abbrev pub lines_in : List Node → List (Option ℕ) → List ℕ → List ListLine
lines_in nodes numbers order = flat_map (λ i. node_lines (node_at nodes i) (number_at numbers i)) order
