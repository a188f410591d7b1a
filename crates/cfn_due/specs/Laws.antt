-- What an event leaves as it was, and what it is good for that nothing waits.
use Rattle.std.specs.Prelude.{ℕ, List, ◌∷◌}
use Rattle.cfn_model.specs.declared.step.Step.{Step}
use Rattle.cfn_model.specs.declared.step.Event.{Event}
use Rattle.cfn_model.specs.Network.{Network, IsNetwork}
use Rattle.cfn_model.specs.Steps.{after}
use Rattle.cfn_scan.specs.Exact.{InPlace, HasNoDebts, IsExactAlong}
use Rattle.cfn_consistency.specs.Openness.{TakesPart}
use Rattle.cfn_consistency.specs.Consistency.{IsNodeConsistent, IsArcConsistent, IsDirectional, IsExistential, AreFullyConsistent}
use Rattle.cfn_due.specs.Dues.{Dues, NothingWaits, Holds}
use Rattle.cfn_due.specs.Going.{GoesArc, GoesDirected, GoesExisting, IsNoted, AreNoted}

-- What does not go with an event goes on over it, where no cost of what is live is negative behind it.
abbrev pub ArcGoesOn : Type 0
ArcGoesOn = (P : Network) (history : List Event) (event : Event) (f : ℕ) → HasNoDebts P (event ∷ history) → (GoesArc P event f → ⊥) → (TakesPart P history f → IsArcConsistent P history f) → TakesPart P (event ∷ history) f → IsArcConsistent P (event ∷ history) f

abbrev pub DirectedGoesOn : Type 0
DirectedGoesOn = (P : Network) (history : List Event) (event : Event) (f : ℕ) → IsNetwork P → InPlace P event → HasNoDebts P (event ∷ history) → (GoesDirected P event f → ⊥) → IsDirectional P history f → IsDirectional P (event ∷ history) f

abbrev pub ExistingGoesOn : Type 0
ExistingGoesOn = (P : Network) (history : List Event) (event : Event) (x : ℕ) → IsNetwork P → InPlace P event → HasNoDebts P (event ∷ history) → (GoesExisting P event x → ⊥) → IsExistential P history x → IsExistential P (event ∷ history) x

-- So what holds goes on to hold where what goes with an event, or with steps, is put.
abbrev pub HoldingGoesOn : Type 0
HoldingGoesOn = (P : Network) (history : List Event) (event : Event) (old new : Dues) → IsNetwork P → InPlace P event → HasNoDebts P (event ∷ history) → IsNoted P event old new → Holds P history old → Holds P (event ∷ history) new

abbrev pub HoldingGoesAlong : Type 0
HoldingGoesAlong = (P : Network) (history : List Event) (steps : List Step) (old new : Dues) → IsNetwork P → IsExactAlong P (after steps history) → AreNoted P steps old new → Holds P history old → Holds P (after steps history) new

-- Where nothing waits, a node consistent network is fully consistent.
abbrev pub NothingWaitsIsFull : Type 0
NothingWaitsIsFull = (P : Network) (history : List Event) (k : ℕ) (due : Dues) → Holds P history due → NothingWaits due → IsNodeConsistent P history k → AreFullyConsistent P history k
