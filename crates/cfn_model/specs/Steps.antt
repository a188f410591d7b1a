-- Which steps are allowed at a threshold (Cooper et al. 2010), and runs of them.
use Rattle.std.specs.Prelude.{◌≡◌, ℕ, ◌<◌, List, [], ◌∷◌, length, slice_index, pos, ◌+ℤ◌, ◌≤ℤ◌, IsTrue}
use Rattle.cfn_model.specs.declared.step.Step.{Step}
use Rattle.cfn_model.specs.declared.step.Step.TheVariants.{Project, Extend, Lift, CutValue, CutTuple}
use Rattle.cfn_model.specs.declared.step.Decision.{Decision}
use Rattle.cfn_model.specs.declared.step.Event.{Event}
use Rattle.cfn_model.specs.declared.step.Event.TheVariants.{Did, Took, Refused}
use Rattle.cfn_model.specs.Decisions.{variable_of, value_of}
use Rattle.cfn_model.specs.Network.{Network, Fits, cells, cell, arity, variable_at, dims_at}
use Rattle.cfn_model.specs.Sums.{floor, unary, residual, is_live, is_live_tuple}

-- x is a variable, and a is one of its values.
pub record IsValue (P : Network) (x a : ℕ) : Type 0 where
  pub variable : x < length P.sizes
  pub value : a < slice_index P.sizes x

-- A decision's variable is one, and the value that it names is one of its values.
abbrev pub IsDecision : Network → Decision → Type 0
IsDecision P d = IsValue P (variable_of d) (value_of d)

-- f is a function, i one of its places, and a one of the values there.
pub record IsPlace (P : Network) (f i a : ℕ) : Type 0 where
  pub function : f < length P.functions
  pub place : i < arity P f
  pub value : a < slice_index (dims_at P f) i

-- f is a function, and c the number of one of its tuples.
pub record IsCell (P : Network) (f c : ℕ) : Type 0 where
  pub function : f < length P.functions
  pub cell : c < cells (dims_at P f)

-- A step's numbers are in range.
abbrev pub InRange : Network → Step → Type 0
InRange P (Project f i a m) = IsPlace P f i a
InRange P (Extend f i a m) = IsPlace P f i a
InRange P (Lift x m) = x < length P.sizes
InRange P (CutValue x a) = IsValue P x a
InRange P (CutTuple f c) = IsCell P f c

-- Each live tuple of f with the value a at place i has a residual cost of at least m.
abbrev pub CanProject : Network → List Event → ℕ → ℕ → ℕ → ℕ → Type 0
CanProject P history f i a m =
    (tuple : List ℕ) → Fits (dims_at P f) tuple → slice_index tuple i ≡ a → IsTrue (is_live_tuple P history f tuple) → pos m ≤ℤ residual P history f tuple

-- The value a is not live, or has a unary cost of at least m.
abbrev pub CanExtend : Network → List Event → ℕ → ℕ → ℕ → Type 0
CanExtend P history x a m = IsTrue (is_live history x a) → pos m ≤ℤ unary P history x a

-- Each live value of x has a unary cost of at least m.
abbrev pub CanLift : Network → List Event → ℕ → ℕ → Type 0
CanLift P history x m = (a : ℕ) → a < slice_index P.sizes x → IsTrue (is_live history x a) → pos m ≤ℤ unary P history x a

-- The floor and the unary cost of the value a reach the threshold.
abbrev pub CanCutValue : Network → List Event → ℕ → ℕ → ℕ → Type 0
CanCutValue P history k x a = pos k ≤ℤ (pos (floor P history) +ℤ unary P history x a)

-- The floor and the residual cost of the tuple with the number c reach the threshold.
abbrev pub CanCutTuple : Network → List Event → ℕ → ℕ → ℕ → Type 0
CanCutTuple P history k f c =
    (tuple : List ℕ) → Fits (dims_at P f) tuple → cell (dims_at P f) tuple ≡ c → pos k ≤ℤ (pos (floor P history) +ℤ residual P history f tuple)

-- A step is allowed after a history, at the threshold k.
abbrev pub Allowed : Network → List Event → ℕ → Step → Type 0
Allowed P history k (Project f i a m) = IsPlace P f i a × (0 < m) × CanProject P history f i a m
Allowed P history k (Extend f i a m) = IsPlace P f i a × (0 < m) × CanExtend P history (variable_at P f i) a m
Allowed P history k (Lift x m) = (x < length P.sizes) × (0 < m) × CanLift P history x m
Allowed P history k (CutValue x a) = IsValue P x a × CanCutValue P history k x a
Allowed P history k (CutTuple f c) = IsCell P f c × CanCutTuple P history k f c

-- The history after a list of steps, the first of them first.
abbrev pub after : List Step → List Event → List Event
after [] history = history
after (step ∷ steps) history = after steps (Did step ∷ history)

-- Each step is allowed after the history and the steps before it.
abbrev pub Run : Network → List Event → List Step → ℕ → Type 0
Run P history [] k = Unit {0}
Run P history (step ∷ steps) k = Allowed P history k step × Run P (Did step ∷ history) steps k

-- Every step of a history is in range.
abbrev pub EventInRange : Network → Event → Type 0
EventInRange P (Did step) = InRange P step
EventInRange P (Took d) = Unit {0}
EventInRange P (Refused d) = Unit {0}

abbrev pub AllInRange : Network → List Event → Type 0
AllInRange P [] = Unit {0}
AllInRange P (event ∷ history) = EventInRange P event × AllInRange P history
