-- What moving amounts through a pair's function does to costs, and to a group of steps.
use Rattle.std.specs.Prelude.{◌≡◌, ℕ, ◌<◌, ◌≤◌, ◌⊎◌, List, [], ◌∷◌, slice_index, ℤ, pos, ◌+ℤ◌, ◌≤ℤ◌, ◌<ℤ◌, IsTrue}
use Rattle.cfn_model.specs.declared.step.Step.{Step}
use Rattle.cfn_model.specs.declared.step.Step.TheVariants.{Project, Extend, Lift, CutValue, CutTuple}
use Rattle.cfn_model.specs.declared.step.Event.{Event}
use Rattle.cfn_model.specs.Network.{Network}
use Rattle.cfn_model.specs.Sums.{floor, unary, residual, is_live, is_live_tuple}
use Rattle.cfn_model.specs.Steps.{IsPlace}
use Rattle.cfn_consistency.specs.Openness.{HasOpenPair}
use Rattle.cfn_consistency.specs.Consistency.{HasFullSupport}
use Rattle.cfn_consistency.specs.Groups.{Group}
use Rattle.cfn_store.specs.Standing.{Standing, history}
use Rattle.cfn_gain.specs.Gains.{Gained, IsOpen, Leads}
use Rattle.cfn_dac.specs.declared.pair.Pair.{Pair}
use Rattle.cfn_dac.specs.Full.{first_of, second_of, total}
use Rattle.cfn_dac.specs.Moves.{IsLiveTuple, Reaches}

-- What a tuple costs together with its values at both places.
abbrev pub whole : Network → List Event → Pair → List ℕ → ℤ
whole P history pair tuple = total P history pair tuple +ℤ unary P history (first_of P pair) (slice_index tuple pair.place)

-- Between two histories costs were moved to the values of the first variable, through the function, from those of the
-- second: with its values at both places each tuple costs what it did, and only tuples whose total reached the threshold
-- are live no more.
pub record Shifts (P : Network) (pair : Pair) (k : ℕ) (before after : List Event) : Type 0 where
  pub floors : floor P after ≡ floor P before
  pub values : (x a : ℕ) → is_live after x a ≡ is_live before x a
  pub tuples : (f : ℕ) (tuple : List ℕ) → IsTrue (is_live_tuple P after f tuple) → IsTrue (is_live_tuple P before f tuple)
  pub cheap : (tuple : List ℕ) → IsLiveTuple P before pair.function tuple → (pos (floor P before) +ℤ total P before pair tuple) <ℤ pos k → IsTrue (is_live_tuple P after pair.function tuple)
  pub others : (f : ℕ) (tuple : List ℕ) → (f ≡ pair.function → ⊥) → (is_live_tuple P after f tuple ≡ is_live_tuple P before f tuple) × (residual P after f tuple ≡ residual P before f tuple)
  pub aside : (x a : ℕ) → (x ≡ first_of P pair → ⊥) → (x ≡ second_of P pair → ⊥) → unary P after x a ≡ unary P before x a
  pub whole : (tuple : List ℕ) → whole P after pair tuple ≡ whole P before pair tuple
  pub more : (a : ℕ) → unary P before (first_of P pair) a ≤ℤ unary P after (first_of P pair) a

-- The values of the first variable from n on cost what they did.
abbrev pub AreStill : Network → Pair → List Event → List Event → ℕ → Type 0
AreStill P pair before after n = (a : ℕ) → n ≤ a → unary P after (first_of P pair) a ≡ unary P before (first_of P pair) a

-- Live tuples with first values from n on have in total what those are to get.
abbrev pub AreHeld : Network → List Event → Pair → List ℕ → ℕ → Type 0
AreHeld P history pair moves n =
    (tuple : List ℕ) → IsLiveTuple P history pair.function tuple → n ≤ slice_index tuple pair.place → pos (slice_index moves (slice_index tuple pair.place)) ≤ℤ total P history pair tuple

-- The values below n have come to alpha, or to a full support, and the others do with their amounts.
pub record AreReached (P : Network) (history : List Event) (pair : Pair) (alpha : ℕ) (moves : List ℕ) (n : ℕ) : Type 0 where
  pub done : (a : ℕ) → IsPlace P pair.function pair.place a → IsTrue (is_live history (first_of P pair) a) → a < n → Reaches P history pair alpha a 0
  pub rest : (a : ℕ) → IsPlace P pair.function pair.place a → IsTrue (is_live history (first_of P pair) a) → n ≤ a → Reaches P history pair alpha a (slice_index moves a)

-- A live value of the first variable has no full support.
pub record SomeLacks (P : Network) (history : List Event) (pair : Pair) : Type 0 where
  pub value : ℕ
  pub place : IsPlace P pair.function pair.place value
  pub live : IsTrue (is_live history (first_of P pair) value)
  pub none : HasFullSupport P history pair.function pair.place pair.other value → ⊥

-- A number is one of a list's; and a step goes through one of these functions.
abbrev pub IsIn : ℕ → List ℕ → Type 0
IsIn f [] = ⊥
IsIn f (g ∷ functions) = (f ≡ g) ⊎ IsIn f functions

abbrev pub GoesThrough : List ℕ → Step → Type 0
GoesThrough functions (Project f i a m) = IsIn f functions
GoesThrough functions (Extend f i a m) = IsIn f functions
GoesThrough functions (Lift x m) = ⊥
GoesThrough functions (CutValue x a) = ⊥
GoesThrough functions (CutTuple f c) = ⊥

abbrev pub GoThrough : List ℕ → List Step → Type 0
GoThrough functions [] = Unit {0}
GoThrough functions (step ∷ steps) = GoesThrough functions step × GoThrough functions steps

-- The steps of a group go through these functions.
abbrev pub IsThrough : List ℕ → List Event → Group → Type 0
IsThrough functions history group = GoThrough functions group.steps

-- Where the steps of a group went through other functions they go through these and the pair's.
abbrev pub LeadsThrough : Standing → Standing → Pair → Type 0
LeadsThrough now after pair = (before : Standing) (functions : List ℕ) → (IsIn pair.function functions → ⊥) → Leads before now (IsThrough functions) → Leads before after (IsThrough (pair.function ∷ functions))

-- The pair is open, and its first variable the lower one.
abbrev pub IsDirected : Network → List Event → Pair → Type 0
IsDirected P history pair = HasOpenPair P history pair.function pair.place pair.other × (first_of P pair < second_of P pair)

-- A value of the first variable has come to alpha.
pub record SomeReached (P : Network) (history : List Event) (pair : Pair) (alpha : ℕ) : Type 0 where
  pub value : ℕ
  pub place : IsPlace P pair.function pair.place value
  pub live : IsTrue (is_live history (first_of P pair) value)
  pub cost : pos alpha ≤ℤ unary P history (first_of P pair) value

-- The steps are groups, or the last of these is unfinished and a value has come to alpha.
abbrev pub Closed : Standing → Standing → Pair → ℕ → Type 0
Closed before after pair alpha = Gained before after ⊎ (IsOpen before after × SomeReached after.network (history after) pair alpha)
