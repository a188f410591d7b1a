-- What the walk down a list's tree makes of each line.
use Rattle.std.specs.Prelude.{◌≡◌, ℕ, Bool, true, false, List, ◌∷◌, Option, Some, None}
use Rattle.cfn_model.specs.declared.step.Event.{Event}
use Rattle.cfn_model.specs.Network.{Network}
use Rattle.cfn_model.specs.Certificate.{Solution}
use Rattle.cfn_fault.specs.declared.kind.FaultKind.{FaultKind}
use Rattle.cfn_check.specs.Walking.{Walking, with_paths}
use Rattle.cfn_best.specs.declared.kind.ListFault.{ListFault}
use Rattle.cfn_best.specs.declared.kind.ListFault.TheVariants.{Certificate}
use Rattle.cfn_best.specs.Tree.{IsLeafOf}
use Rattle.cfn_best.specs.Lines.{ListLine, Claim, threshold, AtNodes, Follows}
use Rattle.cfn_best.specs.Fault.{LinePasses}
use Rattle.cfn_bestcheck.specs.Position.{Position, At}
use Rattle.cfn_bestcheck.specs.Checking.{IsRefused}

-- The lines of the tree so far are right, and the walk has come where they lead.
pub record InTree (P : Network) (r : Position) (w : Walking) (claim : Claim) : Type 0 where
  pub at : At P r (AtNodes claim w.least w.paths)
  pub network : w.network ≡ P
  pub threshold_is : w.threshold ≡ threshold P claim

-- A line of the tree is right and the walk goes on behind it.
pub record IsTaken (P : Network) (claim : Claim) (old new : Walking) (history : List Event) (paths : List (List Event)) (l : Option ListLine) : Type 0 where
  pub its : ListLine
  pub line : l ≡ Some its
  pub follows : Follows P (AtNodes claim old.least (history ∷ paths)) its (AtNodes claim new.least new.paths)
  pub right : LinePasses P (AtNodes claim old.least (history ∷ paths)) its
  pub threshold_is : new.threshold ≡ old.threshold

abbrev pub Takes : Network → Claim → Walking → Walking → List Event → List (List Event) → Option ListLine → Option ListFault → Type 0
Takes P claim old new history paths l None = IsTaken P claim old new history paths l
Takes P claim old new history paths l (Some kind) = IsRefused P (AtNodes claim old.least (history ∷ paths)) l kind

-- How a line of a node fails, if it does.
abbrev pub of_certificate : Option FaultKind → Option ListFault
of_certificate None = None
of_certificate (Some kind) = Some (Certificate kind)

-- The leaf of a listed assignment is left, or it is none of it.
abbrev pub LeavesListed : Network → List Solution → Walking → Walking → ℕ → List Event → List (List Event) → Bool → Type 0
LeavesListed P list old new number history paths true = IsLeafOf P list history number × (new ≡ with_paths paths old)
LeavesListed P list old new number history paths false = IsLeafOf P list history number → ⊥
