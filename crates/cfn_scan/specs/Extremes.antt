-- The least and the greatest residual cost of a function's live tuples with one value at one place, or one at each of two.
use Rattle.std.specs.Prelude.{◌≡◌, ℕ, ◌<◌, Option, Some, None, List, slice_index, ℤ, pos, ◌≤ℤ◌, IsTrue}
use Rattle.cfn_model.specs.declared.step.Event.{Event}
use Rattle.cfn_model.specs.Network.{Network, Fits, arity, cell, dims_at}
use Rattle.cfn_model.specs.Sums.{residual, is_live_tuple}
use Rattle.cfn_scan.specs.declared.scan.Sense.{Sense}
use Rattle.cfn_scan.specs.declared.scan.Sense.TheVariants.{Least, Greatest}
use Rattle.cfn_scan.specs.declared.scan.Extreme.{Extreme}

-- A live tuple of f that has the value a at place i.
pub record IsPicked (P : Network) (history : List Event) (f i a : ℕ) (tuple : List ℕ) : Type 0 where
  pub fits : Fits (dims_at P f) tuple
  pub value : slice_index tuple i ≡ a
  pub live : IsTrue (is_live_tuple P history f tuple)

abbrev pub NonePicked : Network → List Event → ℕ → ℕ → ℕ → Type 0
NonePicked P history f i a = (tuple : List ℕ) → IsPicked P history f i a tuple → ⊥

-- An amount is at most a residual cost, or at least.
abbrev pub Bounds : Sense → ℕ → ℤ → Type 0
Bounds Least amount cost = pos amount ≤ℤ cost
Bounds Greatest amount cost = cost ≤ℤ pos amount

-- What was found is the residual cost and the number of such a tuple, and bounds the residual costs of all of them.
pub record IsExtreme (P : Network) (history : List Event) (f i a : ℕ) (sense : Sense) (extreme : Extreme) : Type 0 where
  pub tuple : List ℕ
  pub picked : IsPicked P history f i a tuple
  pub cell_is : cell (dims_at P f) tuple ≡ extreme.cell
  pub cost_is : residual P history f tuple ≡ pos extreme.cost
  pub bounds : (other : List ℕ) → IsPicked P history f i a other → Bounds sense extreme.cost (residual P history f other)

-- A live tuple of f that has the value a at place i and the value b at place j.
pub record IsPickedBetween (P : Network) (history : List Event) (f i a j b : ℕ) (tuple : List ℕ) : Type 0 where
  pub fits : Fits (dims_at P f) tuple
  pub one : slice_index tuple i ≡ a
  pub other : slice_index tuple j ≡ b
  pub live : IsTrue (is_live_tuple P history f tuple)

abbrev pub NoneBetween : Network → List Event → ℕ → ℕ → ℕ → ℕ → ℕ → Type 0
NoneBetween P history f i a j b = (tuple : List ℕ) → IsPickedBetween P history f i a j b tuple → ⊥

-- What was found is the least residual cost of such tuples, and the number of one that has it.
pub record IsLeastBetween (P : Network) (history : List Event) (f i a j b : ℕ) (extreme : Extreme) : Type 0 where
  pub tuple : List ℕ
  pub picked : IsPickedBetween P history f i a j b tuple
  pub cell_is : cell (dims_at P f) tuple ≡ extreme.cell
  pub cost_is : residual P history f tuple ≡ pos extreme.cost
  pub least : (other : List ℕ) → IsPickedBetween P history f i a j b other → pos extreme.cost ≤ℤ residual P history f other

-- A live tuple of f with the value a at place i costs nothing.
pub record IsFree (P : Network) (history : List Event) (f i a : ℕ) : Type 0 where
  pub tuple : List ℕ
  pub picked : IsPicked P history f i a tuple
  pub free : residual P history f tuple ≡ pos 0

-- The same of the least and the greatest, for a scan that asks for the two values.
pub record IsExtremeBetween (P : Network) (history : List Event) (f i a j b : ℕ) (sense : Sense) (extreme : Extreme) : Type 0 where
  pub tuple : List ℕ
  pub picked : IsPickedBetween P history f i a j b tuple
  pub cell_is : cell (dims_at P f) tuple ≡ extreme.cell
  pub cost_is : residual P history f tuple ≡ pos extreme.cost
  pub bounds : (other : List ℕ) → IsPickedBetween P history f i a j b other → Bounds sense extreme.cost (residual P history f other)

-- The tuple of f with a number.
pub record IsNumbered (P : Network) (f number : ℕ) (tuple : List ℕ) : Type 0 where
  pub fits : Fits (dims_at P f) tuple
  pub number_is : cell (dims_at P f) tuple ≡ number

-- What is told of one tuple of f: it is not live, or it is, and what was found is its residual cost, where f has a place.
abbrev pub IsTold : Network → List Event → ℕ → List ℕ → Option Extreme → Type 0
IsTold P history f tuple None = IsTrue (is_live_tuple P history f tuple) → ⊥
IsTold P history f tuple (Some found) = IsTrue (is_live_tuple P history f tuple) × (0 < arity P f → residual P history f tuple ≡ pos found.cost)
