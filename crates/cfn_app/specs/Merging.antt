-- A certificate that is taken, and joined to what was found.
use Rattle.std.specs.Prelude.{◌≡◌, ℕ, List}
use Rattle.cfn_model.specs.Network.{Network}
use Rattle.cfn_model.specs.Certificate.{Certificate}
use Rattle.cfn_proof.specs.Nodes.{tree_of}
use Rattle.cfn_mending.specs.Joining.{join}
use Rattle.cfn_mending.specs.Merging.{cheaper}
use Rattle.cfn_merge.specs.Same.{same}
use Rattle.cfn_merge.specs.declared.findings.Findings.{Findings}
use Rattle.cfn_merge.specs.Judging.{IsFound}
use Rattle.cfn_desk.specs.Outside.{Outside, Load, Bytes, HasFile, after}
use Rattle.cfn_app.specs.Runs.Checking.{Verifies}

-- The file of a name holds a good certificate, which was loaded, and this is what it has found.
pub record Takes (P : Network) (name : List ℕ) (found : Findings) (old new : Outside) : Type 0 where
  pub text : List ℕ
  pub certificate : Certificate
  pub has : HasFile old name text
  pub verifies : Verifies P text certificate
  pub is : IsFound P certificate found
  pub outside : new ≡ after (Load name (Bytes text)) old

-- So it was, and that is joined to what was found before.
pub record Joins (P : Network) (name : List ℕ) (before joined : Findings) (old new : Outside) : Type 0 where
  pub text : List ℕ
  pub certificate : Certificate
  pub has : HasFile old name text
  pub verifies : Verifies P text certificate
  pub network : joined.best.network ≡ P
  pub best : joined.best.held ≡ cheaper before.best.held certificate.best
  pub tree : tree_of joined.tree ≡ join same (tree_of before.tree) certificate.tree
  pub outside : new ≡ after (Load name (Bytes text)) old
