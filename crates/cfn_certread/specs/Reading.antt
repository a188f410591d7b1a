-- What the text of a certificate is read as.
use Rattle.std.specs.Prelude.{◌≡◌, ℕ, ◌++◌, List, [], ◌∷◌, length, Option, Some, None, Result, Ok, Err}
use Rattle.cfn_model.specs.declared.version.Version.{Version}
use Rattle.cfn_model.specs.declared.step.Event.{Event}
use Rattle.cfn_model.specs.Certificate as model
use Rattle.cfn_model.specs.Tree.{Tree}
use Rattle.cfn_model.specs.Text.{Spells}
use Rattle.cfn_fault.specs.Fault as faults
use Rattle.cfn_fault.specs.Lines as lines
use Rattle.cfn_fault.specs.Lines.{Line, State, lines_of_tree, lines_of_best}
use Rattle.cfn_fault.specs.Laws.{Fronts}
use Rattle.cfn_proof.specs.declared.tree.Node.{Node}
use Rattle.cfn_proof.specs.Nodes.{tree_of}
use Rattle.cfn_certtext.specs.declared.event.TextFault.{TextFault}
use Rattle.cfn_certtext.specs.Reading.{Reading, HasRead}
use Rattle.cfn_certread.specs.declared.certificate.Best.{Best}
use Rattle.cfn_certread.specs.declared.certificate.Head.{Head}
use Rattle.cfn_certread.specs.declared.certificate.ReadCertificate.{ReadCertificate}
use Rattle.cfn_certread.specs.declared.stop.Stop.{Stop}
use Rattle.cfn_certread.specs.declared.stop.Stop.TheVariants as stops
use Rattle.cfn_certread.specs.Narrowing.{narrowed}
use Rattle.cfn_certread.specs.Making.{Making, Reads}

-- The assignment with its cost that was read.
abbrev pub solution_of : Option Best → Option model.Solution
solution_of None = None
solution_of (Some best) = Some (record { cost = best.cost; values = best.values.items })

-- A certificate was read so: its numbers, its best assignment, and its tree as far as its numbers have 32 bits.
pub record IsRead (c : model.Certificate) (read : ReadCertificate) : Type 0 where
  pub variables : read.variables ≡ c.variables
  pub functions : read.functions ≡ c.functions
  pub upper : read.upper ≡ c.upper
  pub best : solution_of read.best ≡ c.best
  pub lower : read.lower ≡ c.lower
  pub tree : tree_of read.tree ≡ narrowed c.tree

-- What a text comes to: it spells a certificate, which was read so, or the text fails at a line.
abbrev pub IsAnswer : List ℕ → Result ReadCertificate TextFault → Type 0
IsAnswer text (Ok read) = (c : model.Certificate) × Spells c text × IsRead c read
IsAnswer text (Err fault) = faults.TextFault text fault.line

-- The text is read as a certificate, or refused at a line.
abbrev pub IsReadAs : model.Certificate → Result ReadCertificate TextFault → Type 0
IsReadAs c (Ok read) = IsRead c read
IsReadAs c (Err fault) = ⊥

abbrev pub IsRefusedAt : ℕ → Result ReadCertificate TextFault → Type 0
IsRefusedAt line (Ok read) = ⊥
IsRefusedAt line (Err fault) = fault.line ≡ line

-- Each certificate that the text spells was read, and each line at which the text fails is the one that is answered.
pub record IsExact (text : List ℕ) (answer : Result ReadCertificate TextFault) : Type 0 where
  pub spelled : (c : model.Certificate) → Spells c text → IsReadAs c answer
  pub fault : (line : ℕ) → faults.TextFault text line → IsRefusedAt line answer

-- Why reading stops.
abbrev pub IsStop : List ℕ → Stop → Type 0
IsStop text (stops.Text fault) = faults.TextFault text fault.line
IsStop text stops.Memory = Unit {0}

-- These lines were read, and lead to this state; no value is left to be told.
pub record Stands (r : Reading) (ls : List Line) (s : State) : Type 0 where
  pub read : HasRead r ls s
  pub left : r.left ≡ []

-- A line is due where a state says, in some version.
abbrev pub IsDueIn : Reading → (Version → State) → Type 0
IsDueIn r s = (version : Version) × (ls : List Line) × Stands r ls (s version)

-- The lines before the best assignment, and those before the nodes.
abbrev pub head_lines : Version → Head → List Line
head_lines version head = lines.Version version ∷ lines.Numbers head.variables head.functions head.upper ∷ lines.Lower head.lower ∷ []

abbrev pub best_lines : Option Best → List Line
best_lines best = lines_of_best (solution_of best) ++ lines.Root ∷ []

-- The lines of the tree so far were read into a tree in the making, behind these.
pub record InTree (r : Reading) (m : Making) (ls : List Line) (version : Version) : Type 0 where
  pub nodes : List Line
  pub paths : List (List Event)
  pub stands : Stands r (ls ++ nodes) (lines.AtNodes version paths)
  pub long : length paths ≡ length m.due
  pub reads : Reads m nodes

-- All lines were read, and behind these they are a tree's: narrowed it is that of the nodes.
pub record IsTreeRead (text : List ℕ) (ls : List Line) (nodes : List Node) : Type 0 where
  pub tree : Tree
  pub is : tree_of nodes ≡ narrowed tree
  pub fronts : Fronts text [] (ls ++ (lines_of_tree tree ++ lines.End ∷ [])) lines.AtOver
