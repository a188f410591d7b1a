-- Lines that have a spelling.
use Rattle.std.proofs.Common.{List, [], ◌∷◌, ◌++◌, map}
use Rattle.std.specs.List.{AllByRecursion}
use Rattle.cfn_model.specs.declared.step.Step.{Step}
use Rattle.cfn_model.specs.Tree.{Tree, Open, Closed, Split}
use Rattle.cfn_model.specs.Text.{IsSpelledStep, IsSpelledTree}
use Rattle.cfn_fault.specs.Nodes.{Makes, LeavesOpen, Closes, Splits}
use Rattle.cfn_fault.specs.Lines as lines
use Rattle.cfn_fault.specs.Lines.{Line, Node}
use Rattle.cfn_fault.proofs.CallerLemmas.{spelled_append}
use Rattle.cfn_record.specs.Lines.{IsSpelledLine, said, lines_of_tree}

block_spelled : (block : List Step) → AllByRecursion IsSpelledStep block → AllByRecursion lines.IsSpelledLine (map (λ step. Node (Makes step)) block)
block_spelled [] all = tt
block_spelled (step ∷ block) all = (all.0, block_spelled block all.1)

nodes_spelled : (tree : Tree) → IsSpelledTree tree → AllByRecursion lines.IsSpelledLine (lines.lines_of_tree tree)
nodes_spelled (Open block) all = spelled_append _ (Node LeavesOpen ∷ []) (block_spelled block all) (tt, tt)
nodes_spelled (Closed block) all = spelled_append _ (Node Closes ∷ []) (block_spelled block all) (tt, tt)
nodes_spelled (Split block d first second) all =
    spelled_append _ (Node (Splits d) ∷ (lines.lines_of_tree first ++ lines.lines_of_tree second)) (block_spelled block all.0) (all.1, spelled_append _ _ (nodes_spelled first all.2) (nodes_spelled second all.3))

said_spelled : (ls : List Line) → AllByRecursion lines.IsSpelledLine ls → AllByRecursion IsSpelledLine (said ls)
said_spelled [] all = tt
said_spelled (l ∷ ls) all = (all.0, said_spelled ls all.1)

-- the lines of a tree
pub tree_spelled : (tree : Tree) → IsSpelledTree tree → AllByRecursion IsSpelledLine (lines_of_tree tree)
tree_spelled tree all = said_spelled (lines.lines_of_tree tree) (nodes_spelled tree all)
