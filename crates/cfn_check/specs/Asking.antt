-- What a judge of steps and decisions answers, and does.
use Rattle.std.specs.Prelude.{◌≡◌, ℕ, ◌<◌, Bool, true, false, List, length, slice_index, IsTrue}
use Rattle.cfn_model.specs.declared.step.Step.{Step}
use Rattle.cfn_model.specs.declared.step.Decision.{Decision}
use Rattle.cfn_model.specs.declared.step.Event.{Event}
use Rattle.cfn_model.specs.declared.step.Event.TheVariants.{Did}
use Rattle.cfn_model.specs.Network.{Network}
use Rattle.cfn_model.specs.Sums.{is_live}
use Rattle.cfn_model.specs.Steps.{IsDecision, InRange, Allowed}
use Rattle.cfn_check.specs.declared.asked.Judged.{Judged}
use Rattle.cfn_check.specs.declared.asked.Judged.TheVariants.{Done, Range, NotAllowed}
use Rattle.cfn_check.specs.Standing.{Standing, with_event}

-- What a judge has found and done: an allowed step is made, and any other leaves all as it was.
abbrev pub IsJudged : Standing → ℕ → Step → Standing → Judged → Type 0
IsJudged old k step new Done = Allowed old.network old.history k step × (new ≡ with_event (Did step) old)
IsJudged old k step new Range = (InRange old.network step → ⊥) × (new ≡ old)
IsJudged old k step new NotAllowed = InRange old.network step × (Allowed old.network old.history k step → ⊥) × (new ≡ old)

-- What a decision has found and done: true exactly where its numbers are in range, and then the event is made.
abbrev pub IsDecided : Standing → Decision → Event → Standing → Bool → Type 0
IsDecided old d event new true = IsDecision old.network d × (new ≡ with_event event old)
IsDecided old d event new false = (IsDecision old.network d → ⊥) × (new ≡ old)

-- No value of a variable is live but this one, and no value but those of an assignment.
abbrev pub HasOnlyAt : Network → List Event → ℕ → ℕ → Type 0
HasOnlyAt P history x own = (a : ℕ) → a < slice_index P.sizes x → IsTrue (is_live history x a) → a ≡ own

abbrev pub HasOnly : Network → List Event → List ℕ → Type 0
HasOnly P history values = (x : ℕ) → x < length P.sizes → HasOnlyAt P history x (slice_index values x)
