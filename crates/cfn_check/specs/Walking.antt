-- The paths that are due in a certificate's tree, and what a line of a node makes of them.
use Rattle.std.specs.Prelude.{◌≡◌, ℕ, ◌-◌, ◌≤◌, min, List, [], ◌∷◌, length, drop, Option, Some, None, Bool, true, false}
use Rattle.cfn_model.specs.declared.step.Step.{Step}
use Rattle.cfn_model.specs.declared.step.Decision.{Decision}
use Rattle.cfn_model.specs.declared.step.Event.{Event}
use Rattle.cfn_model.specs.declared.step.Event.TheVariants.{Did, Took, Refused}
use Rattle.cfn_model.specs.Network.{Network}
use Rattle.cfn_model.specs.Sums.{floor}
use Rattle.cfn_model.specs.Steps.{IsDecision, Allowed}
use Rattle.cfn_model.specs.Tree.{CanClose}
use Rattle.cfn_fault.specs.declared.kind.FaultKind.{FaultKind}
use Rattle.cfn_fault.specs.declared.kind.FaultKind.TheVariants as kinds
use Rattle.cfn_fault.specs.Fault.{FailsStep, refusal_of}
use Rattle.cfn_check.specs.declared.asked.Judged.{Judged}
use Rattle.cfn_check.specs.declared.asked.Judged.TheVariants.{Done, Range, NotAllowed}
use Rattle.cfn_check.specs.declared.owed.Owed.{Owed}

-- The network and the threshold, the paths to the nodes that are due with the next one first, and the least of the
-- threshold and the floors of the open leaves so far.
pub record Walking : Type 0 where
  pub network : Network
  pub threshold : ℕ
  pub paths : List (List Event)
  pub least : ℕ

-- The paths to the second sides that are owed, the newest split first, from the path where one stands.
abbrev pub owed_paths : List Event → List Owed → List (List Event)
owed_paths history [] = []
owed_paths history (o ∷ owed) = (Refused o.decision ∷ drop (length history - o.mark.events) history) ∷ owed_paths history owed

abbrev pub due_paths : Bool → List Event → List Owed → List (List Event)
due_paths true history owed = []
due_paths false history owed = history ∷ owed_paths history owed

-- Each split that owes a side stands on the path, before the newer ones, and its decision is in range.
abbrev pub AreOwed : Network → ℕ → List Owed → Type 0
AreOwed P n [] = Unit {0}
AreOwed P n (o ∷ owed) = (o.mark.events ≤ n) × IsDecision P o.decision × AreOwed P o.mark.events owed

-- The walk with these paths due.
abbrev pub with_paths : List (List Event) → Walking → Walking
with_paths paths w = record w { paths = paths }

-- How a step fails on which this is answered, if it does.
abbrev pub fault_of : Judged → Step → Option FaultKind
fault_of Done step = None
fault_of Range step = Some kinds.Range
fault_of NotAllowed step = Some (refusal_of step)

-- What becomes of the walk at a step, an open leaf, a closed leaf and a split, where this path is due before those.
abbrev pub Steps : Walking → Walking → Step → List Event → List (List Event) → Option FaultKind → Type 0
Steps old new step history paths None = Allowed old.network history old.threshold step × (new ≡ with_paths ((Did step ∷ history) ∷ paths) old)
Steps old new step history paths (Some kind) = FailsStep old.network old.threshold history step kind

abbrev pub Opens : Walking → Walking → List Event → List (List Event) → Type 0
Opens old new history paths = new ≡ record old { paths = paths; least = min old.least (floor old.network history) }

abbrev pub Closes : Walking → Walking → List Event → List (List Event) → Bool → Type 0
Closes old new history paths true = CanClose old.network history old.threshold × (new ≡ with_paths paths old)
Closes old new history paths false = CanClose old.network history old.threshold → ⊥

abbrev pub Splits : Walking → Walking → Decision → List Event → List (List Event) → Bool → Type 0
Splits old new d history paths true = IsDecision old.network d × (new ≡ with_paths ((Took d ∷ history) ∷ (Refused d ∷ history) ∷ paths) old)
Splits old new d history paths false = IsDecision old.network d → ⊥
