-- The live tuples of a function of two variables with one value at one place.
use Rattle.std.specs.Prelude.{◌≡◌, ℕ, ◌+◌, ◌*◌, ◌%◌, ◌^◌, ◌<◌, List, [], ◌∷◌, length, slice_index, ◌==◌, if◌then◌else◌, IsTrue}
use Rattle.cfn_model.specs.declared.step.Event.{Event}
use Rattle.cfn_model.specs.Network.{Network, scope_at, variable_at}
use Rattle.cfn_model.specs.Sums.{is_live}
use Rattle.cfn_model.specs.Steps.{IsPlace}
use Rattle.cfn_scan.specs.declared.scan.Scan.{Scan}
use Rattle.cfn_scan.specs.declared.scan.Spot.{Spot}
use Rattle.cfn_scan.specs.declared.scan.Sense.TheVariants.{Least}
use Rattle.cfn_scan.specs.declared.line.Line.{Line}
use Rattle.cfn_scan.specs.declared.line.Side.{Side}
use Rattle.cfn_scan.specs.Exact.{IsExact}
use Rattle.cfn_scan.specs.Scanning.{IsSpot, gone_on}
use Rattle.cfn_scan.specs.Reading.{Reads, start}

-- A scan over a function's two variables that asks for one value at one place, and the other place.
pub record Way : Type 0 where
  pub scan : Scan
  pub first : ℕ
  pub second : ℕ
  pub other : ℕ

abbrev pub scope_of : Way → List ℕ
scope_of way = way.first ∷ way.second ∷ []

-- The scan that asks for a value at the other place, too.
abbrev pub turned_to : Way → ℕ → Scan
turned_to way value = record way.scan { two = record { place = way.other; value = value } }

-- The values of the tuple with a value at the other place, in the order of the scope.
abbrev pub first_value : Way → ℕ → ℕ
first_value way value = if way.other == 0 then value else way.scan.one.value

abbrev pub second_value : Way → ℕ → ℕ
second_value way value = if way.other == 0 then way.scan.one.value else value

-- Where the scan stands behind the first variable, and behind both.
abbrev pub middle_of : Way → ℕ → Spot
middle_of way b = gone_on (turned_to way b) start (slice_index way.scan.sizes.now way.first) (first_value way b)

abbrev pub end_of : Way → ℕ → Spot
end_of way b = gone_on (turned_to way b) (middle_of way b) (slice_index way.scan.sizes.now way.second) (second_value way b)

-- How many values the other variable has.
abbrev pub other_size : Way → ℕ
other_size way = slice_index way.scan.sizes.now (if way.other == 0 then way.first else way.second)

-- The scan reads the costs of f, whose variables are two, and has its live value a at place i; the other place is j.
pub record IsWay (P : Network) (history : List Event) (f i a j : ℕ) (way : Way) : Type 0 where
  pub reads : Reads P history f way.scan
  pub exact : IsExact P history
  pub sense : way.scan.sense ≡ Least
  pub scope : scope_at P f ≡ scope_of way
  pub spot : IsSpot way.scan (scope_of way) start
  pub place : IsPlace P f i a
  pub live : IsTrue (is_live history (variable_at P f i) a)
  pub one : way.scan.one ≡ record { place = i; value = a }
  pub other : way.other ≡ j
  pub other_place : j < 2
  pub different : i ≡ j → ⊥

-- A line has looked up what the scan reads: for each value of the other variable it finds the number of the tuple, and what was
-- moved away from it, at once.
pub record IsRead (way : Way) (line : Line) : Type 0 where
  pub table : line.table.now ≡ way.scan.table.now
  pub flags : line.flags.now ≡ way.scan.flags.now
  pub upper : line.upper ≡ way.scan.upper
  pub there : (b : ℕ) → b < other_size way → b < length line.shifts.now
  pub cells : (b : ℕ) → b < other_size way → line.base + b * line.stride ≡ (end_of way b).cell
  pub moved : (b : ℕ) → b < other_size way → (line.own + slice_index line.shifts.now b) % 2 ^ 64 ≡ (end_of way b).shift

-- What a side of a function of two variables has looked up, seen from the place i: at which of the words that a scan reads those of
-- the values of either place begin, and how far the numbers of tuples are apart.
abbrev pub own_start : ℕ → ℕ → ℕ
own_start i width = if i == 0 then 0 else width

abbrev pub other_start : ℕ → ℕ → ℕ
other_start i width = if i == 0 then width else 0

pub record IsSideOf (scan : Scan) (first second i : ℕ) (side : Side) : Type 0 where
  pub table : side.table.now ≡ scan.table.now
  pub flags : side.flags.now ≡ scan.flags.now
  pub upper : side.upper ≡ scan.upper
  pub own : (a : ℕ) → a < slice_index scan.sizes.now (if i == 0 then first else second) → (a < length side.own.now) × (slice_index side.own.now a ≡ slice_index scan.shifts.now (own_start i (slice_index scan.sizes.now first) + a))
  pub others : (b : ℕ) → b < slice_index scan.sizes.now (if i == 0 then second else first) → (b < length side.others.now) × (slice_index side.others.now b ≡ slice_index scan.shifts.now (other_start i (slice_index scan.sizes.now first) + b))
  pub step : side.step ≡ (if i == 0 then slice_index scan.sizes.now second else 1)
  pub stride : side.stride ≡ (if i == 0 then 1 else slice_index scan.sizes.now second)
  pub other : side.other ≡ (if i == 0 then second else first)

-- The scan reads the costs of f, whose variables are two; i is a place, and j the other one.
pub record IsSide (P : Network) (history : List Event) (f i j : ℕ) (side : Side) : Type 0 where
  pub scan : Scan
  pub first : ℕ
  pub second : ℕ
  pub is_side : IsSideOf scan first second i side
  pub reads : Reads P history f scan
  pub exact : IsExact P history
  pub sense : scan.sense ≡ Least
  pub scope : scope_at P f ≡ first ∷ second ∷ []
  pub spot : IsSpot scan (first ∷ second ∷ []) start
  pub places : i + j ≡ 1

-- The line of a value.
abbrev pub line_of : Side → ℕ → Line
line_of side a = record {
  table = side.table;
  flags = side.flags;
  shifts = side.others;
  upper = side.upper;
  own = slice_index side.own.now a;
  base = a * side.step;
  stride = side.stride;
}

pub record IsLine (P : Network) (history : List Event) (f i a j : ℕ) (line : Line) : Type 0 where
  pub way : Way
  pub is_way : IsWay P history f i a j way
  pub is_read : IsRead way line

-- A live value stands at the other place.
pub record IsAlongWay (P : Network) (history : List Event) (f i a j : ℕ) (way : Way) (b : ℕ) : Type 0 where
  pub is_way : IsWay P history f i a j way
  pub place : IsPlace P f j b
  pub live : IsTrue (is_live history (variable_at P f j) b)

pub record IsAlong (P : Network) (history : List Event) (f i a j : ℕ) (line : Line) (b : ℕ) : Type 0 where
  pub is_line : IsLine P history f i a j line
  pub place : IsPlace P f j b
  pub live : IsTrue (is_live history (variable_at P f j) b)
