-- The state between the shifts that close a leaf.
use Rattle.std.specs.Prelude.{◌≡◌, ℕ, ◌+◌, ◌*◌, ◌<◌, ◌≤◌, ◌⊎◌, List, length, slice_index, pos, ◌+ℤ◌}
use Rattle.cfn_model.specs.declared.step.Step.{Step}
use Rattle.cfn_model.specs.declared.step.Step.TheVariants.{Project, Lift}
use Rattle.cfn_model.specs.declared.step.Event.{Event}
use Rattle.cfn_model.specs.declared.step.Event.TheVariants.{Did}
use Rattle.cfn_model.specs.Network.{Network, restrict, scope_at}
use Rattle.cfn_model.specs.Sums.{lifted, floor, unary_by, unary, residual_by, residual, is_live}
use Rattle.cfn_model.specs.Steps.{CanProject, CanLift}
use Rattle.cfn_store.specs.Standing.{Standing, history, with_step}
use Rattle.cfn_scan.specs.Extremes.{IsPicked}
use Rattle.cfn_trim.specs.Leaves.{IsLeaf, AddsShifts}

-- Where the floor is still below k, the unary costs of the assignment's values at the variables below x are 0, and so are
-- the residual costs of its tuples at the functions below f. There is room for a lift of each variable from x on and two
-- steps for each function from f on.
pub record IsShutting (before s : Standing) (values : List ℕ) (k x f : ℕ) : Type 0 where
  pub adds : AddsShifts before s
  pub leaf : IsLeaf s values k
  pub room : length s.network.sizes + 2 * length s.network.functions ≤ (s.spare + x) + 2 * f
  pub unaries : floor s.network (history s) < k → (y : ℕ) → y < x → unary s.network (history s) y (slice_index values y) ≡ pos 0
  pub residuals : floor s.network (history s) < k → (g : ℕ) → g < f → residual s.network (history s) g (restrict (scope_at s.network g) values) ≡ pos 0

-- A step was made, or left out since its amount is 0.
abbrev pub IsMade : Standing → Standing → ℕ → Step → Type 0
IsMade s t m step = ((m ≡ 0) × (t ≡ s)) ⊎ ((0 < m) × (t ≡ with_step s step))

-- A variable was lifted by all that its one value costs, unless the floor is at k then.
pub record IsLifted (s t : Standing) (k x a : ℕ) : Type 0 where
  pub amount : ℕ
  pub can : CanLift s.network (history s) x amount
  pub all : floor s.network (history s) + amount < k → unary s.network (history s) x a ≡ pos amount
  pub made : IsMade s t amount (Lift x amount)

-- An amount that can be projected from f to the value a at its first place: all that its one live tuple costs, or k.
pub record IsAmount (P : Network) (history : List Event) (f a k amount : ℕ) : Type 0 where
  pub within : amount ≤ k
  pub can : CanProject P history f 0 a amount
  pub all : amount < k → (tuple : List ℕ) × IsPicked P history f 0 a tuple × (residual P history f tuple ≡ pos amount)

pub record IsProjected (s t : Standing) (k f a : ℕ) : Type 0 where
  pub amount : ℕ
  pub is : IsAmount s.network (history s) f a k amount
  pub made : IsMade s t amount (Project f 0 a amount)

-- What a step does to the sums, made or left out.
pub record Shifts (s t : Standing) (step : Step) : Type 0 where
  pub network : t.network ≡ s.network
  pub floors : floor s.network (history t) ≡ lifted (Did step) + floor s.network (history s)
  pub unaries : (y b : ℕ) → unary s.network (history t) y b ≡ (unary_by s.network (Did step) y b +ℤ unary s.network (history s) y b)
  pub residuals : (g : ℕ) (tuple : List ℕ) → residual s.network (history t) g tuple ≡ (residual_by (Did step) g tuple +ℤ residual s.network (history s) g tuple)
  pub live : (y b : ℕ) → is_live (history t) y b ≡ is_live (history s) y b
  pub adds : (before : Standing) → AddsShifts before s → AddsShifts before t
  pub spare : s.spare ≤ t.spare + 1
