-- What a scan over the live tuples of a function looks at, and what it finds, said of the words that it reads.
use Rattle.std.specs.Prelude.{◌≡◌, ℕ, suc, ◌+◌, ◌-◌, ◌*◌, ◌/◌, ◌%◌, ◌<◌, ◌≤◌, ◌^◌, Bool, false, not, ◌&&◌, ◌||◌, ◌==◌, List, [], ◌∷◌, length, drop, slice_index, slice_index_or, nat_lt, IsTrue, Option, Some, None, ◌⊎◌}
use Rattle.cfn_model.specs.declared.limits.TheConstants.{MOST_TUPLES}
use Rattle.cfn_model.specs.Network.{Fits, dims, cells, cell_from}
use Rattle.cfn_model.specs.Sums.{is_live}
use Rattle.cfn_scan.specs.Shifts.{offset}
use Rattle.cfn_scan.specs.declared.scan.Scan.{Scan}
use Rattle.cfn_scan.specs.declared.scan.Pin.{Pin}
use Rattle.cfn_scan.specs.declared.scan.Spot.{Spot}
use Rattle.cfn_scan.specs.declared.scan.Tail.{Tail}
use Rattle.cfn_scan.specs.declared.scan.Extreme.{Extreme}
use Rattle.cfn_scan.specs.declared.scan.Best.{Best}
use Rattle.cfn_scan.specs.declared.scan.Sense.{Sense}
use Rattle.cfn_scan.specs.declared.scan.Sense.TheVariants.{Least, Greatest}

-- Where a scan stands once it has gone on by a value of a variable with so many.
abbrev pub gone_on : Scan → Spot → ℕ → ℕ → Spot
gone_on scan spot size value = record {
  cell = spot.cell * size + value;
  shift = (spot.shift + slice_index scan.shifts.now (spot.offset + value)) % 2 ^ 64;
  offset = spot.offset + size;
  place = spot.place + 1;
}

-- Whether a value at a place is what is asked for there: at another place any value is.
abbrev pub agrees : Pin → ℕ → ℕ → Bool
agrees pin place value = not (place == pin.place) || (value == pin.value)

-- Whether a value may stand at a place: it is live, and is what is asked for there.
abbrev pub may_stand : Scan → ℕ → ℕ → ℕ → Bool
may_stand scan place x value = is_live scan.live.now.history x value && (agrees scan.one place value && agrees scan.two place value)

-- Whether values may stand from a place on, and the tuple's entry is below the upper bound and not cut.
abbrev pub is_met : Scan → List ℕ → Spot → List ℕ → Bool
is_met scan [] spot rest = nat_lt (slice_index scan.table.now spot.cell) scan.upper && not (slice_index_or scan.flags.now spot.cell false)
is_met scan (x ∷ scope) spot [] = false
is_met scan (x ∷ scope) spot (value ∷ rest) = may_stand scan spot.place x value && is_met scan scope (gone_on scan spot (slice_index scan.sizes.now x) value) rest

-- The word of the tuple's residual cost.
abbrev pub word_of : Scan → List ℕ → Spot → List ℕ → ℕ
word_of scan [] spot rest = (slice_index scan.table.now spot.cell + (2 ^ 64 - spot.shift)) % 2 ^ 64
word_of scan (x ∷ scope) spot [] = 0
word_of scan (x ∷ scope) spot (value ∷ rest) = word_of scan scope (gone_on scan spot (slice_index scan.sizes.now x) value) rest

-- A word comes before another, or is it.
abbrev pub Before : Sense → ℕ → ℕ → Type 0
Before Least word other = word ≤ other
Before Greatest word other = other ≤ word

-- Values that fit a scope, and are met.
pub record IsMet (scan : Scan) (scope : List ℕ) (spot : Spot) (rest : List ℕ) : Type 0 where
  pub fits : Fits (dims scan.sizes.now scope) rest
  pub met : IsTrue (is_met scan scope spot rest)

-- No values are met; and what was found is the word and the cell of values that are met, and none has a word before it.
abbrev pub NoneMet : Scan → List ℕ → Spot → Type 0
NoneMet scan scope spot = (rest : List ℕ) → IsMet scan scope spot rest → ⊥

pub record IsFound (scan : Scan) (scope : List ℕ) (spot : Spot) (found : Extreme) : Type 0 where
  pub rest : List ℕ
  pub met : IsMet scan scope spot rest
  pub word : word_of scan scope spot rest ≡ found.cost
  pub cell : cell_from spot.cell (dims scan.sizes.now scope) rest ≡ found.cell
  pub first : (other : List ℕ) → IsMet scan scope spot other → Before scan.sense found.cost (word_of scan scope spot other)

-- What a scan will read down a scope is there.
pub record IsSpot (scan : Scan) (scope : List ℕ) (spot : Spot) : Type 0 where
  pub variables : (p : ℕ) → p < length scope → slice_index scope p < length scan.sizes.now
  pub sizes : scan.live.now.sizes ≡ scan.sizes.now
  pub one : (p : ℕ) → p < length scope → spot.place + p ≡ scan.one.place → scan.one.value < slice_index scan.sizes.now (slice_index scope p)
  pub two : (p : ℕ) → p < length scope → spot.place + p ≡ scan.two.place → scan.two.value < slice_index scan.sizes.now (slice_index scope p)
  pub inhabited : (x : ℕ) → x < length scan.sizes.now → 0 < slice_index scan.sizes.now x
  pub cells : (spot.cell + 1) * cells (dims scan.sizes.now scope) ≤ length scan.table.now
  pub few : length scan.table.now ≤ MOST_TUPLES
  pub flags : length scan.flags.now ≡ length scan.table.now
  pub offset : spot.offset + offset (dims scan.sizes.now scope) (length scope) ≡ length scan.shifts.now
  pub places : spot.place + length scope < 2 ^ 64

-- The values that may stand at a place.
pub record AreChoices (scan : Scan) (place x : ℕ) (values : List ℕ) : Type 0 where
  pub stand : (i : ℕ) → i < length values → (slice_index values i < slice_index scan.sizes.now x) × IsTrue (may_stand scan place x (slice_index values i))
  pub all : (a : ℕ) → a < slice_index scan.sizes.now x → IsTrue (may_stand scan place x a) → (i : ℕ) × (i < length values) × (slice_index values i ≡ a)

-- Of two that were found the first, where there is one.
abbrev pub IsSooner : Sense → Option Extreme → Option Extreme → Option Extreme → Type 0
IsSooner sense None other result = result ≡ other
IsSooner sense (Some a) None result = result ≡ Some a
IsSooner sense (Some a) (Some b) result = (found : Extreme) × (result ≡ Some found) × Before sense found.cost a.cost × Before sense found.cost b.cost × ((found ≡ a) ⊎ (found ≡ b))

-- Where a scan ends that goes on from a spot by a tail.
abbrev pub ended : Spot → Tail → Spot
ended spot tail = record {
  cell = spot.cell * tail.tuples + tail.end.cell;
  shift = (spot.shift + tail.end.shift) % 2 ^ 64;
  offset = tail.end.offset;
  place = tail.end.place;
}

-- The tail is the one step by which a scan goes from the begin of a scope to its end: what is met there is met before it.
pub record IsTail (scan : Scan) (scope : List ℕ) (offset place : ℕ) (tail : Tail) : Type 0 where
  pub spot : (begin : Spot) → begin.offset ≡ offset → begin.place ≡ place → begin.shift < 2 ^ 64 → IsSpot scan scope begin → IsSpot scan [] (ended begin tail)
  pub none : (begin : Spot) → begin.offset ≡ offset → begin.place ≡ place → begin.shift < 2 ^ 64 → IsSpot scan scope begin → NoneMet scan [] (ended begin tail) → NoneMet scan scope begin
  pub found : (begin : Spot) → begin.offset ≡ offset → begin.place ≡ place → begin.shift < 2 ^ 64 → IsSpot scan scope begin → (found : Extreme) → IsFound scan [] (ended begin tail) found → IsFound scan scope begin found

-- The number that is least for the cost that stands first; its own number is the cost again.
abbrev pub key : Sense → ℕ → ℕ
key Least cost = cost
key Greatest cost = 2 ^ 64 - 1 - cost

-- What was found, by its key and the number of its tuple; and before there is one the key is the greatest number.
abbrev pub found_with : Sense → ℕ → Option ℕ → Option Extreme
found_with sense k None = None
found_with sense k (Some cell) = Some (record { cost = key sense k; cell = cell })

abbrev pub found_in : Sense → Best → Option Extreme
found_in sense best = found_with sense best.key best.cell

abbrev pub IsBest : Best → Type 0
IsBest best = best.cell ≡ None → best.key ≡ 2 ^ 64 - 1

-- A scan can go on by a value of x.
pub record IsInner (scan : Scan) (x value : ℕ) (spot : Spot) : Type 0 where
  pub scope : List ℕ
  pub spot_is : IsSpot scan (x ∷ scope) spot
  pub value_is : value < slice_index scan.sizes.now x

-- The scope has one variable; all of its values may stand at the place, and the least cost is looked for.
pub record IsLane (scan : Scan) (scope : List ℕ) (spot : Spot) : Type 0 where
  pub one : length scope ≡ 1
  pub least : scan.sense ≡ Least
  pub stand : (a : ℕ) → a < slice_index scan.sizes.now (slice_index scope 0) → IsTrue (may_stand scan spot.place (slice_index scope 0) a)

-- The values are those of the tuple with a number, the last of them running fastest.
abbrev pub HasDigits : List ℕ → ℕ → List ℕ → Type 0
HasDigits sizes number values = (p : ℕ) → p < length sizes → (number / cells (drop (suc p) sizes)) % slice_index sizes p ≡ slice_index values p

-- No value is asked for at a place of the scope.
abbrev pub AsksNone : Scan → List ℕ → Spot → Type 0
AsksNone scan scope spot = (p : ℕ) → p < length scope → (spot.place + p ≡ scan.one.place → ⊥) × (spot.place + p ≡ scan.two.place → ⊥)

-- What is told of some values: they are not met, or they are, and what was found is their word.
abbrev pub IsAt : Scan → List ℕ → Spot → List ℕ → Option Extreme → Type 0
IsAt scan scope spot rest None = IsMet scan scope spot rest → ⊥
IsAt scan scope spot rest (Some found) = IsMet scan scope spot rest × (word_of scan scope spot rest ≡ found.cost)
