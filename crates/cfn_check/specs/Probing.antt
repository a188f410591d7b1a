-- What makes a project impossible: a live tuple with the value at the place that costs less than the amount.
use Rattle.std.specs.Prelude.{◌≡◌, ◌≢◌, ◌↔◌, ℕ, suc, ◌+◌, ◌*◌, ◌<◌, ◌≤◌, ◌^◌, true, false, List, length, slice_index, drop, ℤ, pos, neg_ℤ, ◌+ℤ◌, ◌<ℤ◌, ◌≤ℤ◌, nat_lt}
use Rattle.cfn_model.specs.declared.step.Event.{Event}
use Rattle.cfn_model.specs.Network.{Network, Fits, cells, cell_from, dims, dims_at, arity, scope_at, variable_at, function_at}
use Rattle.cfn_model.specs.Sums.{all_live, is_cut}
use Rattle.cfn_check.specs.declared.probe.Asked.{Asked}
use Rattle.cfn_check.specs.declared.probe.Spot.{Spot}
use Rattle.cfn_tables.specs.Slots.{slots, shifted}
use Rattle.cfn_check.specs.Along.{along}

-- The tuple of f with a number is below the upper bound, not cut, and its entry is below a bound.
pub record IsLow (P : Network) (history : List Event) (f c : ℕ) (bound : ℤ) : Type 0 where
  pub entry : nat_lt (slice_index (function_at P f).entries c) P.upper ≡ true
  pub uncut : is_cut history f c ≡ false
  pub low : pos (slice_index (function_at P f).entries c) <ℤ bound

-- These values of the places of a scope behind a spot make a tuple that is live, has the value asked about, and is low.
pub record IsLowAt (P : Network) (history : List Event) (asked : Asked) (spot : Spot) (scope tuple : List ℕ) : Type 0 where
  pub fits : Fits (dims P.sizes scope) tuple
  pub has : (place : ℕ) → place < length scope → slice_index scope place ≡ asked.variable → slice_index tuple place ≡ asked.value
  pub live : all_live history scope tuple ≡ true
  pub low : IsLow P history asked.function (cell_from spot.number (dims P.sizes scope) tuple) (spot.bound +ℤ along (λ n. shifted P history asked.function n) spot.slot (dims P.sizes scope) tuple)

-- Some values of the places from a spot on do.
abbrev pub LacksIn : Network → List Event → Asked → Spot → List ℕ → Type 0
LacksIn P history asked spot scope = (tuple : List ℕ) × IsLowAt P history asked spot scope tuple

abbrev pub Lacks : Network → List Event → Asked → Spot → Type 0
Lacks P history asked spot = LacksIn P history asked spot (drop spot.place (scope_at P asked.function))

-- The function is one, and the value is one of the variable's wherever the function has that.
pub record IsAsked (P : Network) (asked : Asked) : Type 0 where
  pub function : asked.function < length P.functions
  pub value : (place : ℕ) → place < arity P asked.function → variable_at P asked.function place ≡ asked.variable → asked.value < slice_index P.sizes asked.variable

-- A spot stands on a way along a tuple of f, and its numbers leave room.
pub record IsSpot (P : Network) (f : ℕ) (spot : Spot) : Type 0 where
  pub place : spot.place ≤ arity P f
  pub number : suc spot.number * cells (drop spot.place (dims_at P f)) ≤ cells (dims_at P f)
  pub slot : spot.slot + slots (drop spot.place (dims_at P f)) ≡ slots (dims_at P f)
  pub low : neg_ℤ (pos (2 ^ 104 * spot.place)) ≤ℤ spot.bound
  pub high : spot.bound ≤ℤ pos (2 ^ 64 + 2 ^ 104 * spot.place)

-- The spot behind one more place, where a value stands there.
abbrev pub spot_behind : Network → List Event → ℕ → Spot → ℕ → Spot
spot_behind P history f spot value = record {
  place = spot.place + 1;
  number = spot.number * slice_index (dims_at P f) spot.place + value;
  slot = spot.slot + slice_index (dims_at P f) spot.place;
  bound = spot.bound +ℤ shifted P history f (spot.slot + value);
}

-- A later spot, from which as much is lacking, stands at the end or at a variable that is not asked about.
pub record IsOpen (P : Network) (history : List Event) (asked : Asked) (spot last : Spot) : Type 0 where
  pub is : IsSpot P asked.function last
  pub later : spot.place ≤ last.place
  pub same : Lacks P history asked last ↔ Lacks P history asked spot
  pub apart : last.place < arity P asked.function → variable_at P asked.function last.place ≢ asked.variable

-- A value of x is the only one that comes in question.
pub record IsOnly (size : ℕ) (asked : Asked) (x value : ℕ) : Type 0 where
  pub below : value < size
  pub has : x ≡ asked.variable → value ≡ asked.value
  pub only : (other : ℕ) → other < size → (x ≡ asked.variable → other ≡ asked.value) → other ≡ value
