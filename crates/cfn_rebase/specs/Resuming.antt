-- What a search goes on with from the text of a certificate.
use Rattle.std.specs.Prelude.{◌≡◌, ℕ, List, [], Option}
use Rattle.cfn_model.specs.Network.{Network}
use Rattle.cfn_model.specs.Certificate.{Certificate, Good, Solution, threshold_of}
use Rattle.cfn_model.specs.Tree.{Strict, Tree, count}
use Rattle.cfn_model.specs.Paths.{Tame}
use Rattle.cfn_model.specs.Text.{Spells}
use Rattle.cfn_fault.specs.Fault.{TextFault}
use Rattle.cfn_low.specs.Outcome.{Start}
use Rattle.cfn_machine.specs.declared.part.Part.{Part}
use Rattle.cfn_machine.specs.Parts.{others_of}
use Rattle.cfn_machine.specs.Pool.{row_of}
use Rattle.cfn_mending.specs.Keeping.{Kept}
use Rattle.cfn_certread.specs.declared.certificate.ReadCertificate.{ReadCertificate}
use Rattle.cfn_certread.specs.Reading.{IsRead}
use Rattle.cfn_search.specs.declared.begin.Begin.{Begin}
use Rattle.cfn_search.specs.Beginning.{MayBegin, start_of}
use Rattle.cfn_rebase.specs.Keeping.{IsKeptBest}
use Rattle.cfn_rebase.specs.declared.resuming.Resumed.{Resumed}
use Rattle.cfn_rebase.specs.declared.resuming.Resumed.TheVariants.{Goes, Refused}

-- The text spells a certificate, of whose best assignment and tree a search begins with what is kept in the network: as many
-- splits and closed leaves, the row of bounds of that tree at the price of that assignment, and the open leaves that a part leaves
-- to others. Of a certificate that is good in the network, whose splits take values away and whose costs stay small, all is kept: so
-- nothing is lost where the network has not changed.
pub record Resumes (P : Network) (part : Option Part) (text : List ℕ) (start : Start) : Type 0 where
  pub certificate : Certificate
  pub spells : Spells certificate text
  pub best : Option Solution
  pub keeps_best : IsKeptBest P certificate.best best
  pub tree : Tree
  pub keeps : Kept P [] (threshold_of P.upper best) certificate.tree tree
  pub whole : Good P certificate → Strict P [] certificate.tree → Tame P [] certificate.tree → (best ≡ certificate.best) × (tree ≡ certificate.tree)
  pub start_is : start ≡ record { begun = count tree; first = row_of P tree (threshold_of P.upper best); aside = others_of part tree }

-- A search may go on from what is kept of what was read, if a certificate was read so that the text spells.
abbrev pub Begins : Network → Option Part → List ℕ → ReadCertificate → Begin → Type 0
Begins P part text old begin = (c : Certificate) → Spells c text → IsRead c old → MayBegin P begin × Resumes P part text (start_of P begin)

-- A search may go on from what is kept; or a line of the text follows those before it in no certificate, and is the first.
abbrev pub IsResumed : Network → Option Part → List ℕ → Resumed → Type 0
IsResumed P part text (Goes begin) = MayBegin P begin × Resumes P part text (start_of P begin)
IsResumed P part text (Refused line) = TextFault text line
