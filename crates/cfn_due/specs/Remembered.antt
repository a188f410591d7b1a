-- What was put last, while events are noted.
use Rattle.std.specs.Prelude.{◌≡◌, ℕ, true, IfSome}
use Rattle.cfn_model.specs.Network.{Network}
use Rattle.cfn_queue.specs.Waiting.{Waiting}
use Rattle.cfn_due.specs.declared.last.Last.{Last}
use Rattle.cfn_due.specs.Dues.{Dues, waits}
use Rattle.cfn_due.specs.Going.{IsOn, IsUpper, IsNear}

-- All that goes waits.
abbrev pub AllWait : Waiting → (ℕ → Type 0) → Type 0
AllWait queue Goes = (i : ℕ) → Goes i → waits queue i ≡ true

-- What ends where unary costs of x rise waits; where values of x are lost, so far as it is arc consistency; and where costs
-- of f rise.
abbrev pub RiseWaits : Network → Dues → ℕ → Type 0
RiseWaits P due x = AllWait due.directed (IsUpper P x) × AllWait due.existing (IsNear P x)

abbrev pub LossWaits : Network → Dues → ℕ → Type 0
LossWaits P due x = AllWait due.arcs (IsOn P x)

abbrev pub ChangeWaits : Network → Dues → ℕ → Type 0
ChangeWaits P due f = AllWait due.arcs (λ g. f ≡ g) × AllWait due.directed (λ g. f ≡ g) × AllWait due.existing (λ x. IsOn P x f)

-- What was put last still waits.
pub record IsLast (P : Network) (last : Last) (due : Dues) : Type 0 where
  pub risen : IfSome last.risen (RiseWaits P due)
  pub lost : IfSome last.lost (LossWaits P due)
  pub changed : IfSome last.changed (ChangeWaits P due)
