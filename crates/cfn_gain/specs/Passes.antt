-- What holds within the two passes over the variables.
use Rattle.std.specs.Prelude.{◌≡◌, ℕ, ◌+◌, ◌<◌, ◌≤◌, ◌⊎◌, List, length, pos, ◌≤ℤ◌, ◌<ℤ◌, IsTrue}
use Rattle.cfn_model.specs.declared.step.Event.{Event}
use Rattle.cfn_model.specs.Network.{Network}
use Rattle.cfn_model.specs.Sums.{floor, unary, is_live}
use Rattle.cfn_model.specs.Steps.{IsValue}
use Rattle.cfn_consistency.specs.Consistency.{IsFree}
use Rattle.cfn_store.specs.Standing.{Standing, history}
use Rattle.cfn_gain.specs.Settling.{AddsSteps}

-- The variable x has a live value.
pub record HasLive (P : Network) (history : List Event) (x : ℕ) : Type 0 where
  pub value : ℕ
  pub is : IsValue P x value
  pub live : IsTrue (is_live history x value)

-- The least unary cost of the live values of x.
pub record IsLeast (P : Network) (history : List Event) (x least : ℕ) : Type 0 where
  pub value : ℕ
  pub is : IsValue P x value
  pub live : IsTrue (is_live history x value)
  pub cost : unary P history x value ≡ pos least
  pub most : (a : ℕ) → IsValue P x a → IsTrue (is_live history x a) → pos least ≤ℤ unary P history x a

-- There is room for the steps up to the limit.
abbrev pub HasRoom : Standing → ℕ → Type 0
HasRoom s limit = limit ≤ length s.block + s.spare

-- Each variable has a live value, and those below x have one of unary cost 0; the floor is below the threshold.
pub record IsLifting (before s : Standing) (k limit x : ℕ) : Type 0 where
  pub adds : AddsSteps before s k limit
  pub room : HasRoom s limit
  pub below : floor s.network (history s) < k
  pub some : (y : ℕ) → y < length s.network.sizes → HasLive s.network (history s) y
  pub free : (y : ℕ) → y < x → (a : ℕ) × IsFree s.network (history s) y a

-- A value stands before the value a of x.
abbrev pub IsEarlier : ℕ → ℕ → ℕ → ℕ → Type 0
IsEarlier y b x a = (y < x) ⊎ ((y ≡ x) × (b < a))

-- Each variable has a live value of unary cost 0, and the live values before the value a of x cost less than what the
-- floor lacks of the threshold.
pub record IsCutting (before s : Standing) (k limit lacks x a : ℕ) : Type 0 where
  pub adds : AddsSteps before s k limit
  pub room : HasRoom s limit
  pub sum : floor s.network (history s) + lacks ≡ k
  pub some : 0 < lacks
  pub free : (y : ℕ) → y < length s.network.sizes → (b : ℕ) × IsFree s.network (history s) y b
  pub less : (y b : ℕ) → IsValue s.network y b → IsEarlier y b x a → IsTrue (is_live (history s) y b) → unary s.network (history s) y b <ℤ pos lacks
