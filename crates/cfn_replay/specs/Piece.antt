-- What was read of a piece.
use Rattle.std.specs.Prelude.{◌≡◌, ℕ, ◌+◌, ◌++◌, List, [], ◌∷◌, length, map, sum_by}
use Rattle.std.specs.List.{AllByRecursion}
use Rattle.cfn_model.specs.declared.step.Event.{Event}
use Rattle.cfn_model.specs.declared.version.Version.TheVariants.{Second}
use Rattle.cfn_model.specs.Tree.{Tree, count}
use Rattle.cfn_fault.specs.Nodes.{Item, Makes, LeavesOpen, Closes, Splits}
use Rattle.cfn_fault.specs.Lines as lines
use Rattle.cfn_fault.specs.Lines.{Line, Node}
use Rattle.cfn_proof.specs.declared.tree.Node.{Node as Branching}
use Rattle.cfn_proof.specs.Nodes.{tree_of}
use Rattle.cfn_certread.specs.Making.{Making, Reads}
use Rattle.cfn_record.specs.Lines.{text_of, IsSpelledLine, said, lines_of_tree, AtEvents}
use Rattle.cfn_record.specs.Fault.{NoneComes}
use Rattle.cfn_replay.specs.declared.piece.PieceText.{PieceText}
use Rattle.cfn_replay.specs.declared.piece.PieceText.TheVariants.{Whole, Broken}
use Rattle.cfn_replay.specs.Capping.{cap_item, cap_tree}
use Rattle.cfn_replay.specs.Position.{Position}

-- The lines that items are; and how many splits and closed leaves they are.
abbrev pub node_lines : List Item → List Line
node_lines items = map (λ it. Node it) items

abbrev pub made_by : Item → ℕ
made_by (Makes step) = 0
made_by LeavesOpen = 0
made_by Closes = 1
made_by (Splits d) = 1

-- Some lines of a piece were read, and the tree is made of them with 32 bits for each number.
pub record InPiece (start r : Position) (m : Making) (made : ℕ) : Type 0 where
  pub items : List Item
  pub paths : List (List Event)
  pub text : r.text ≡ start.text
  pub count : r.count ≡ start.count + length items
  pub rest : start.rest ≡ text_of (said (node_lines items)) ++ r.rest
  pub spelled : AllByRecursion IsSpelledLine (said (node_lines items))
  pub run : lines.Runs (lines.AtNodes Second ([] ∷ [])) (node_lines items) (lines.AtNodes Second paths)
  pub long : length paths ≡ length m.due
  pub reads : Reads m (node_lines (map cap_item items))
  pub made_is : made ≡ sum_by made_by items

-- All lines of a piece were read.
pub record IsWholePiece (start r : Position) (nodes : List Branching) (made : ℕ) : Type 0 where
  pub tree : Tree
  pub many : r.count ≡ start.count + length (lines_of_tree tree)
  pub rest : start.rest ≡ text_of (lines_of_tree tree) ++ r.rest
  pub spelled : AllByRecursion IsSpelledLine (lines_of_tree tree)
  pub is : tree_of nodes ≡ cap_tree tree
  pub made_is : made ≡ count tree

-- The piece stops at a line that is none of it.
pub record IsBroken (start : Position) (line : ℕ) : Type 0 where
  pub ls : List Line
  pub path : List Event
  pub paths : List (List Event)
  pub more : List ℕ
  pub line_is : line ≡ start.count + length ls + 1
  pub rest : start.rest ≡ text_of (said ls) ++ more
  pub spelled : AllByRecursion IsSpelledLine (said ls)
  pub run : lines.Runs (lines.AtNodes Second ([] ∷ [])) ls (lines.AtNodes Second (path ∷ paths))
  pub none : NoneComes (AtEvents (path ∷ paths)) more

abbrev pub IsPieceText : Position → Position → PieceText → Type 0
IsPieceText start r (Whole tree made) = IsWholePiece start r tree made
IsPieceText start r (Broken line) = IsBroken start line
