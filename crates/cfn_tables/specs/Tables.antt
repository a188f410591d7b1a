-- The costs and live values of a network at one point of a path, as tables.
use Rattle.std.specs.Prelude.{◌≡◌, ℕ, ◌+◌, ◌<◌, ◌≤◌, ◌^◌, Bool, true, false, ◌==◌, List, [], ◌∷◌, length, slice_index, slice_index_or, replicate, count_by, ℤ, pos, neg_ℤ, ◌+ℤ◌, ◌≤ℤ◌, if◌then◌else◌}
use Rattle.cfn_model.specs.declared.step.Step.TheVariants.{Project, Extend, Lift, CutValue, CutTuple}
use Rattle.cfn_model.specs.declared.step.Event.{Event}
use Rattle.cfn_model.specs.declared.step.Event.TheVariants.{Did, Took, Refused}
use Rattle.cfn_model.specs.Network.{Network, cells, dims_at}
use Rattle.cfn_model.specs.Sums.{lifted, floor, unary_by, unary, removes, cuts, is_cut}
use Rattle.cfn_tables.specs.Slots.{slots, shifted_by, shifted}

-- One variable: the unary cost of each value, and how many events have taken it.
pub record Values : Type 0 where
  pub costs : List ℤ
  pub takers : List ℕ

-- One function: what was shifted at each slot, and whether a tuple is cut, at its number, once there was a cut.
pub record Tuples : Type 0 where
  pub sums : List ℤ
  pub cut : List Bool

-- The floor, each variable and each function.
pub record Tables : Type 0 where
  pub floor : ℕ
  pub variables : List Values
  pub functions : List Tuples

abbrev pub no_values : Values
no_values = record { costs = []; takers = [] }

abbrev pub no_tuples : Tuples
no_tuples = record { sums = []; cut = [] }

abbrev pub values_at : Tables → ℕ → Values
values_at t x = slice_index_or t.variables x no_values

abbrev pub tuples_at : Tables → ℕ → Tuples
tuples_at t f = slice_index_or t.functions f no_tuples

-- What the tables say of a value.
abbrev pub unary_at : Tables → ℕ → ℕ → ℤ
unary_at t x a = slice_index_or (values_at t x).costs a (pos 0)

abbrev pub takers_at : Tables → ℕ → ℕ → ℕ
takers_at t x a = slice_index (values_at t x).takers a

-- What the tables say of a slot of f, and of the tuple with a number.
abbrev pub shift_at : Tables → ℕ → ℕ → ℤ
shift_at t f n = slice_index_or (tuples_at t f).sums n (pos 0)

abbrev pub cut_at : Tables → ℕ → ℕ → Bool
cut_at t f c = slice_index_or (tuples_at t f).cut c false

-- How many values no event has taken, and whether there are none.
abbrev pub live_count : List ℕ → ℕ
live_count takers = count_by (λ n. n == 0) takers

abbrev pub has_none : Values → Bool
has_none v = live_count v.takers == 0

-- How many variables have no live value.
abbrev pub wiped_count : List Values → ℕ
wiped_count variables = count_by has_none variables

-- How many events of a history take the value a from x.
abbrev pub takers : List Event → ℕ → ℕ → ℕ
takers [] x a = 0
takers (event ∷ history) x a = (if removes event x a then 1 else 0) + takers history x a

-- The tables have a place for each value and each slot of the network, and none or one for each tuple of a function.
pub record HasShape (P : Network) (t : Tables) : Type 0 where
  pub variables : length t.variables ≡ length P.sizes
  pub unary : (x : ℕ) → x < length P.sizes → length (values_at t x).costs ≡ slice_index P.sizes x
  pub takers : (x : ℕ) → x < length P.sizes → length (values_at t x).takers ≡ slice_index P.sizes x
  pub functions : length t.functions ≡ length P.functions
  pub sums : (f : ℕ) → f < length P.functions → length (tuples_at t f).sums ≡ slots (dims_at P f)
  pub cut : (f : ℕ) → f < length P.functions → 0 < length (tuples_at t f).cut → length (tuples_at t f).cut ≡ cells (dims_at P f)

-- The tables say what a history makes of the network's costs and values.
pub record Says (P : Network) (history : List Event) (t : Tables) : Type 0 where
  pub shape : HasShape P t
  pub floor : t.floor ≡ floor P history
  pub unary : (x a : ℕ) → x < length P.sizes → a < slice_index P.sizes x → unary_at t x a ≡ unary P history x a
  pub takers : (x a : ℕ) → x < length P.sizes → a < slice_index P.sizes x → takers_at t x a ≡ takers history x a
  pub shifts : (f n : ℕ) → f < length P.functions → n < slots (dims_at P f) → shift_at t f n ≡ shifted P history f n
  pub cut : (f c : ℕ) → f < length P.functions → c < cells (dims_at P f) → cut_at t f c ≡ is_cut history f c

-- The values of a variable before any event.
abbrev pub first_values : ℕ → Values
first_values size = record { costs = replicate size (pos 0); takers = replicate size 0 }

-- A function of so many slots before any event.
abbrev pub first_tuples : ℕ → Tuples
first_tuples n = record { sums = replicate n (pos 0); cut = [] }

-- Both tables say the same.
pub record SaysSame (old new : Tables) : Type 0 where
  pub floor : new.floor ≡ old.floor
  pub variables : new.variables ≡ old.variables
  pub shifts : (f n : ℕ) → shift_at new f n ≡ shift_at old f n
  pub cut : (f c : ℕ) → cut_at new f c ≡ cut_at old f c

-- A tuple that an event cuts has a flag.
abbrev pub HasFlag : Event → Tables → Type 0
HasFlag (Did (Project f i a m)) t = Unit {0}
HasFlag (Did (Extend f i a m)) t = Unit {0}
HasFlag (Did (Lift x m)) t = Unit {0}
HasFlag (Did (CutValue x a)) t = Unit {0}
HasFlag (Did (CutTuple f c)) t = c < length (tuples_at t f).cut
HasFlag (Took d) t = Unit {0}
HasFlag (Refused d) t = Unit {0}

-- The second tables are the first ones, with this added to the floor, to each unary cost, to how often each value is
-- taken, and to what was shifted at each slot.
pub record Moves (P : Network) (up : ℕ) (gain : ℕ → ℕ → ℤ) (times : ℕ → ℕ → ℕ) (shift : ℕ → ℕ → ℤ) (old new : Tables) : Type 0 where
  pub floor : new.floor ≡ up + old.floor
  pub unary : (x a : ℕ) → x < length P.sizes → a < slice_index P.sizes x → unary_at new x a ≡ (gain x a +ℤ unary_at old x a)
  pub takers : (x a : ℕ) → x < length P.sizes → a < slice_index P.sizes x → takers_at new x a ≡ times x a + takers_at old x a
  pub shifts : (f n : ℕ) → f < length P.functions → n < slots (dims_at P f) → shift_at new f n ≡ (shift f n +ℤ shift_at old f n)

-- The second tables are the first ones with what an event adds, but for cuts of tuples.
abbrev pub Adds : Network → Event → Tables → Tables → Type 0
Adds P event old new = Moves P (lifted event) (λ x a. unary_by P event x a) (λ x a. if removes event x a then 1 else 0) (λ f n. shifted_by P event f n) old new

-- What an event has added can be taken off again.
pub record Has (P : Network) (event : Event) (t : Tables) : Type 0 where
  pub floor : lifted event ≤ t.floor
  pub takers : (x a : ℕ) → x < length P.sizes → a < slice_index P.sizes x → removes event x a ≡ true → 0 < takers_at t x a

-- The tables are cut at what an event cuts as it says, and elsewhere as before.
abbrev pub Cuts : Network → Event → Bool → Tables → Tables → Type 0
Cuts P event is old new = (f c : ℕ) → f < length P.functions → c < cells (dims_at P f) → cut_at new f c ≡ (if cuts event f c then is else cut_at old f c)

-- A cost between -2^126 and 2^126.
pub record IsWide (z : ℤ) : Type 0 where
  pub low : neg_ℤ (pos (2 ^ 126)) ≤ℤ z
  pub high : z ≤ℤ pos (2 ^ 126)

-- An amount between -2^64 and 2^64.
pub record IsAmount (z : ℤ) : Type 0 where
  pub low : neg_ℤ (pos (2 ^ 64)) ≤ℤ z
  pub high : z ≤ℤ pos (2 ^ 64)

-- All numbers of the tables leave room in 128 bits.
pub record HasRoom (P : Network) (t : Tables) : Type 0 where
  pub floor : t.floor < 2 ^ 126
  pub unary : (x a : ℕ) → x < length P.sizes → a < slice_index P.sizes x → IsWide (unary_at t x a)
  pub takers : (x a : ℕ) → x < length P.sizes → a < slice_index P.sizes x → takers_at t x a < 2 ^ 62
  pub shifts : (f n : ℕ) → f < length P.functions → n < slots (dims_at P f) → IsWide (shift_at t f n)
