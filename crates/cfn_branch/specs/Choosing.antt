-- Which variable and which value a split names (Boussemart, Hemery, Lecoutre and Sais 2004).
use Rattle.std.specs.Prelude.{◌≡◌, ◌≢◌, ℕ, ◌+◌, ◌*◌, ◌<◌, ◌≤◌, ◌⊎◌, List, length, sum_by, slice_index, nat_le, pos, ◌≤ℤ◌, IsTrue, if◌then◌else◌}
use Rattle.cfn_model.specs.Sums.{unary, is_live}
use Rattle.cfn_model.specs.Steps.{IsValue}
use Rattle.cfn_consistency.specs.Openness.{open_count}
use Rattle.cfn_incidence.specs.declared.incidence.Place.{Place}
use Rattle.cfn_incidence.specs.Places.{places_of}
use Rattle.cfn_rows.specs.Sets.{live_count}
use Rattle.cfn_store.specs.Standing.{Standing, history}
use Rattle.cfn_store.specs.Rooms.{sets_of}
use Rattle.cfn_branch.specs.declared.choosing.Score.{Score}
pub use Rattle.cfn_branch.specs.Splits.{AllDecided, IsChoice, IsSplit}

-- How many values of x are live.
abbrev pub choices : Standing → ℕ → ℕ
choices s x = live_count (sets_of s) x

-- x is open: it has two live values or more.
pub record IsOpen (s : Standing) (x : ℕ) : Type 0 where
  pub there : x < length s.network.sizes
  pub undecided : 2 ≤ choices s x

-- The weight of the function of a place where it has two open variables or more, and else nothing.
abbrev pub weight_where_open : Standing → List ℕ → Place → ℕ
weight_where_open s weights p = if nat_le 2 (open_count s.network (history s) p.function) then slice_index weights p.function else 0

-- The weighted degree of x: 1, and the weights of the functions on x that have two open variables or more.
abbrev pub degree : Standing → List ℕ → ℕ → ℕ
degree s weights x = 1 + sum_by (weight_where_open s weights) (places_of s.network x)

-- The second-least unary cost of the live values of x, counted with multiplicity: of two of them the greater one is it, and
-- none but the lesser one of the two is below it.
pub record IsSecondLeast (s : Standing) (x cost : ℕ) : Type 0 where
  pub least : ℕ
  pub second : ℕ
  pub one : IsChoice s x least
  pub other : IsChoice s x second
  pub different : least ≢ second
  pub order : unary s.network (history s) x least ≤ℤ unary s.network (history s) x second
  pub is : unary s.network (history s) x second ≡ pos cost
  pub most : (a : ℕ) → IsChoice s x a → a ≢ least → pos cost ≤ℤ unary s.network (history s) x a

-- What x is chosen by.
pub record HasScore (s : Standing) (weights : List ℕ) (x : ℕ) (score : Score) : Type 0 where
  pub count : score.count ≡ choices s x
  pub degree : score.degree ≡ degree s weights x
  pub second : IsSecondLeast s x score.second

-- The ratio of count to degree is less, or as great.
abbrev pub HasLessRatio : Score → Score → Type 0
HasLessRatio a b = a.count * b.degree < b.count * a.degree

abbrev pub HasSameRatio : Score → Score → Type 0
HasSameRatio a b = a.count * b.degree ≡ b.count * a.degree

-- A score is better than another: its ratio is less, or the ratios are equal and its second-least cost is greater.
abbrev pub IsBetter : Score → Score → Type 0
IsBetter a b = HasLessRatio a b ⊎ (HasSameRatio a b × (b.second < a.second))

-- A variable comes before another: its score is better, or is as good, and its number is less.
abbrev pub ComesBefore : Score → ℕ → Score → ℕ → Type 0
ComesBefore a y b x = IsBetter a b ⊎ (HasSameRatio a b × (a.second ≡ b.second) × (y < x))

-- x is open, and no open variable comes before it.
pub record IsChosen (s : Standing) (weights : List ℕ) (x : ℕ) : Type 0 where
  pub undecided : IsOpen s x
  pub score : Score
  pub is : HasScore s weights x score
  pub first : (y : ℕ) (other : Score) → IsOpen s y → HasScore s weights y other → ComesBefore other y score x → ⊥

-- A live value of x: no live value has a lower unary cost, and none before it has as low a one.
pub record IsCheapest (s : Standing) (x a : ℕ) : Type 0 where
  pub value : IsValue s.network x a
  pub live : IsTrue (is_live (history s) x a)
  pub least : (b : ℕ) → IsValue s.network x b → IsTrue (is_live (history s) x b) → unary s.network (history s) x a ≤ℤ unary s.network (history s) x b
  pub first : (b : ℕ) → IsValue s.network x b → IsTrue (is_live (history s) x b) → unary s.network (history s) x b ≡ unary s.network (history s) x a → a ≤ b
