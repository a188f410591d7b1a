-- What a certificate's text is judged to be, and what it has found.
use Rattle.std.specs.Prelude.{◌≡◌, ℕ, List}
use Rattle.cfn_model.specs.Network.{Network}
use Rattle.cfn_model.specs.Certificate.{Certificate, Good}
use Rattle.cfn_model.specs.Text.{Spells}
use Rattle.cfn_fault.specs.Fault.{Fault}
use Rattle.cfn_proof.specs.Nodes.{tree_of}
use Rattle.cfn_merge.specs.declared.findings.Findings.{Findings}
use Rattle.cfn_merge.specs.declared.judging.Judged.{Judged}
use Rattle.cfn_merge.specs.declared.judging.Judged.TheVariants.{Good as GoodText, Refused}

-- These are the best assignment and the tree of a certificate.
pub record IsFound (P : Network) (c : Certificate) (found : Findings) : Type 0 where
  pub network : found.best.network ≡ P
  pub best : found.best.held ≡ c.best
  pub tree : tree_of found.tree ≡ c.tree

-- The text spells a good certificate, of which these are.
pub record HasFound (P : Network) (text : List ℕ) (found : Findings) : Type 0 where
  pub certificate : Certificate
  pub spells : Spells certificate text
  pub good : Good P certificate
  pub is : IsFound P certificate found

-- A text is a good certificate's, or a line of it is the first that fails.
abbrev pub IsJudged : Network → List ℕ → Judged → Type 0
IsJudged P text (GoodText found) = HasFound P text found
IsJudged P text (Refused kind line) = Fault P text line kind
