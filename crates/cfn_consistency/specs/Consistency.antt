-- Local consistencies of a network after a history, at a threshold (Larrosa and Schiex 2004; Cooper et al. 2010).
use Rattle.std.specs.Prelude.{◌≡◌, ℕ, ◌<◌, ◌≤◌, List, length, slice_index, pos, ◌+ℤ◌, ◌<ℤ◌, IsTrue}
use Rattle.cfn_model.specs.declared.step.Event.{Event}
use Rattle.cfn_model.specs.Network.{Network, Fits, variable_at, dims_at}
use Rattle.cfn_model.specs.Sums.{floor, unary, residual, is_live, is_live_tuple}
use Rattle.cfn_model.specs.Steps.{IsValue, IsPlace}
use Rattle.cfn_model.specs.Tree.{CanClose}
use Rattle.cfn_consistency.specs.Openness.{TakesPart, HasOpenPair}

-- Nothing below is worth a look: the floor reaches the threshold, or a variable has no live value.
abbrev pub IsDead : Network → List Event → ℕ → Type 0
IsDead P history k = CanClose P history k

-- The value a of x is live, and has the unary cost 0.
pub record IsFree (P : Network) (history : List Event) (x a : ℕ) : Type 0 where
  pub value : IsValue P x a
  pub live : IsTrue (is_live history x a)
  pub free : unary P history x a ≡ pos 0

-- Node consistency: with each live value the floor and its unary cost stay below the threshold, and each variable has a
-- live value with the unary cost 0.
pub record IsNodeConsistent (P : Network) (history : List Event) (k : ℕ) : Type 0 where
  pub below : (x a : ℕ) → IsValue P x a → IsTrue (is_live history x a) → (pos (floor P history) +ℤ unary P history x a) <ℤ pos k
  pub free : (x : ℕ) → x < length P.sizes → (a : ℕ) × IsFree P history x a

-- A support of the value a at place i of f: a live tuple with it, of residual cost 0.
pub record HasSupport (P : Network) (history : List Event) (f i a : ℕ) : Type 0 where
  pub tuple : List ℕ
  pub fits : Fits (dims_at P f) tuple
  pub at : slice_index tuple i ≡ a
  pub live : IsTrue (is_live_tuple P history f tuple)
  pub free : residual P history f tuple ≡ pos 0

-- A full support, with regard to the variable at place j: its value's unary cost counts as well.
pub record HasFullSupport (P : Network) (history : List Event) (f i j a : ℕ) : Type 0 where
  pub tuple : List ℕ
  pub fits : Fits (dims_at P f) tuple
  pub at : slice_index tuple i ≡ a
  pub live : IsTrue (is_live_tuple P history f tuple)
  pub free : (residual P history f tuple +ℤ unary P history (variable_at P f j) (slice_index tuple j)) ≡ pos 0

-- Each live value of each variable of f has a support.
abbrev pub IsArcConsistent : Network → List Event → ℕ → Type 0
IsArcConsistent P history f = (i a : ℕ) → IsPlace P f i a → IsTrue (is_live history (variable_at P f i) a) → HasSupport P history f i a

-- Where two variables of f are open, each live value of the lower one has a full support.
abbrev pub IsDirectional : Network → List Event → ℕ → Type 0
IsDirectional P history f =
    (i j a : ℕ) → HasOpenPair P history f i j → variable_at P f i < variable_at P f j → IsPlace P f i a → IsTrue (is_live history (variable_at P f i) a) → HasFullSupport P history f i j a

-- No function of a lower number has the same two open variables.
abbrev pub IsFirst : Network → List Event → ℕ → ℕ → ℕ → Type 0
IsFirst P history f i j =
    (g p q : ℕ) → HasOpenPair P history g p q → variable_at P g p ≡ variable_at P f i → variable_at P g q ≡ variable_at P f j → f ≤ g

-- A value of x is live, has the unary cost 0, and has a full support in each first function of x and another open variable.
pub record IsExistential (P : Network) (history : List Event) (x : ℕ) : Type 0 where
  pub value : ℕ
  pub free : IsFree P history x value
  pub supports : (f i j : ℕ) → HasOpenPair P history f i j → variable_at P f i ≡ x → IsFirst P history f i j → HasFullSupport P history f i j value

-- Of a whole network. Arc consistency: of each function that takes part.
pub record AreArcConsistent (P : Network) (history : List Event) (k : ℕ) : Type 0 where
  pub nodes : IsNodeConsistent P history k
  pub functions : (f : ℕ) → TakesPart P history f → IsArcConsistent P history f

-- Directional arc consistency: of each function.
pub record AreDirectional (P : Network) (history : List Event) (k : ℕ) : Type 0 where
  pub nodes : IsNodeConsistent P history k
  pub functions : (f : ℕ) → IsDirectional P history f

-- Existential arc consistency: of each variable.
pub record AreExistential (P : Network) (history : List Event) (k : ℕ) : Type 0 where
  pub nodes : IsNodeConsistent P history k
  pub variables : (x : ℕ) → x < length P.sizes → IsExistential P history x

-- Existential directional arc consistency: all of these.
pub record AreFullyConsistent (P : Network) (history : List Event) (k : ℕ) : Type 0 where
  pub arc : AreArcConsistent P history k
  pub directional : AreDirectional P history k
  pub existential : AreExistential P history k
