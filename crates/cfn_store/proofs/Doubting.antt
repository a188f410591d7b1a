-- Values that are passed, and what a side sees of a value.
use Rattle.std.proofs.Common.{◌≡◌, ◌≢◌, ℕ, ◌+◌, ◌-◌, ◌<◌, ◌≤◌, ◌⊎◌, inl, inr, List, sym, ap, subst, ◌∙◌, arith, Option, Some}
use Rattle.std.proofs.lemmas.Bool.{cases_lt, cases_eq}
use Rattle.std.specs.Prelude.{slice_index, pos, IsTrue, MatchOption, length}
use Rattle.cfn_model.specs.declared.step.Event.{Event}
use Rattle.cfn_model.specs.Network.{IsNetwork, Network, arity, cells, dims_at, scope_at, variable_at}
use Rattle.cfn_model.specs.Sums.{is_live}
use Rattle.cfn_model.specs.Steps.{IsPlace, IsValue}
use Rattle.cfn_net.proofs.CallerLemmas.{cell-below, get_or-dims}
use Rattle.cfn_scan.specs.declared.line.Line.{Line}
use Rattle.cfn_scan.specs.declared.line.Side.{Side}
use Rattle.cfn_store.specs.declared.supports.Doubt.{Doubt}
use Rattle.cfn_scan.specs.Extremes.{IsExtreme, IsFree, NonePicked}
use Rattle.cfn_scan.specs.declared.scan.Extreme.{Extreme}
use Rattle.cfn_scan.specs.declared.scan.Sense.TheVariants.{Least}
use Rattle.cfn_scan.specs.Lines.{IsSide, IsLine, IsAlong, line_of}
use Rattle.cfn_store.specs.Doubts.{AreFreeBetween, AreFreeFrom, IsDoubt, IsSeen}
use Rattle.cfn_store.specs.Standing.{Standing, history}
use Rattle.cfn_scan.proofs.CallerLemmas.{side_line}

-- a value of a place's variable is one of the place
pub place_of : (P : Network) (f i a : ℕ) → f < length P.functions → i < arity P f → a < slice_index P.sizes (variable_at P f i) → IsPlace P f i a
place_of P f i a function place value =
    record { function = function; place = place; value = (let d = get_or-dims P.sizes (scope_at P f) i place in omega (arith, value, d)) }

pub value_below : (P : Network) (f i a : ℕ) → IsPlace P f i a → a < slice_index P.sizes (variable_at P f i)
value_below P f i a is = let v = is.value in let d = get_or-dims P.sizes (scope_at P f) i is.place in omega (arith, v, d)

-- where values are passed up to the size all are
pub all_passed : (P : Network) (h : List Event) (f i from end : ℕ) → AreFreeBetween P h f i from end → slice_index P.sizes (variable_at P f i) ≤ end → AreFreeFrom P h f i from
all_passed P h f i from end passed all = λ a l place live. passed a l (let b = value_below P f i a place in omega (arith, b, all)) place live

-- the other place of a function of two variables, and its side
pub seen : (s : Standing) (f i : ℕ) (side : Side) → i < arity s.network f → IsSeen s f i side → (1 - i < arity s.network f) × (i ≡ 1 - i → ⊥) × IsSide s.network (history s) f i (1 - i) side
seen s f i side place known =
    let two = known.0 in
    let there : 1 - i < arity s.network f = omega (arith, two, place) in
    let apart : i ≡ 1 - i → ⊥ = λ same. omega (arith, two, place, same) in
    (there, apart, known.1 (1 - i) there apart)

-- a live value of the other variable along the line of a live value
pub along : (P : Network) (h : List Event) (f i a j b x : ℕ) (side : Side) (line : Line) → IsSide P h f i j side → j < arity P f → IsPlace P f i a → IsTrue (is_live h (variable_at P f i) a) → line ≡ line_of side a → x ≡ variable_at P f j → IsValue P x b × IsTrue (is_live h x b) → IsAlong P h f i a j line b
along P h f i a j b x side line is there place live same at other = subst (λ l. IsAlong P h f i a j l b) (sym same) (record {
  is_line = side_line P h f i j side is a place live;
  place = place_of P f j b place.function there (subst (λ y. b < slice_index P.sizes y) at other.0.value);
  live = subst (λ y. IsTrue (is_live h y b)) at other.1;
})

pub line_is : (P : Network) (h : List Event) (f i a j : ℕ) (side : Side) (line : Line) → IsSide P h f i j side → IsPlace P f i a → IsTrue (is_live h (variable_at P f i) a) → line ≡ line_of side a → IsLine P h f i a j line
line_is P h f i a j side line is place live same = subst (λ l. IsLine P h f i a j l) (sym same) (side_line P h f i j side is a place live)

-- a value of which a tuple costs nothing has one that does
pub free_of : (P : Network) (h : List Event) (f i a : ℕ) (extreme : Extreme) → IsExtreme P h f i a Least extreme → extreme.cost ≡ 0 → IsFree P h f i a
free_of P h f i a extreme is none = record { tuple = is.tuple; picked = is.picked; free = is.cost_is ∙ ap pos none }

-- the tuple that was found for a value, and its number
pub extreme_of : (P : Network) (h : List Event) (f i from : ℕ) (doubt : Doubt) (extreme : Extreme) → IsDoubt P h f i from doubt → doubt.least ≡ Some extreme → IsExtreme P h f i doubt.value Least extreme
extreme_of P h f i from doubt extreme is found = subst (λ (o : Option Extreme). MatchOption o (NonePicked P h f i doubt.value) (IsExtreme P h f i doubt.value Least)) found is.least

pub cell_there : (P : Network) (h : List Event) (f i a : ℕ) (extreme : Extreme) → IsExtreme P h f i a Least extreme → extreme.cell < cells (dims_at P f)
cell_there P h f i a extreme is = subst (λ n. n < cells (dims_at P f)) is.cell_is (cell-below (dims_at P f) is.tuple is.picked.fits)

-- a value behind one that is there has a number
pub next_small : (P : Network) (f i a : ℕ) → IsNetwork P → IsPlace P f i a → a + 1 ≤ 4096
next_small P f i a net is =
    let b = value_below P f i a is in
    let most = net.sizes (variable_at P f i) ((net.functions f is.function).variables i is.place) in
    omega (arith, b, most)

-- one more is passed
pub passed_doubt : (P : Network) (h : List Event) (f i from here : ℕ) (doubt : Doubt) → AreFreeBetween P h f i from here → IsDoubt P h f i here doubt → IsFree P h f i doubt.value → AreFreeBetween P h f i from (doubt.value + 1)
passed_doubt P h f i from here doubt before is free = λ a l m place live. one a l (omega (arith, m)) place live (cases_lt a here) (cases_eq a doubt.value)
  where
    one : (a : ℕ) → from ≤ a → a ≤ doubt.value → IsPlace P f i a → IsTrue (is_live h (variable_at P f i) a) → (a < here) ⊎ (here ≤ a) → (a ≡ doubt.value) ⊎ (a ≢ doubt.value) → IsFree P h f i a
    one a l m place live (inl b) same = before a l b place live
    one a l m place live (inr b) (inl same) = subst (IsFree P h f i) (sym same) free
    one a l m place live (inr b) (inr other) = is.passed a b (omega (arith, m, other)) place live

-- one more value is passed, where it is dead or has a tuple that costs nothing
pub passed_value : (P : Network) (h : List Event) (f i from here : ℕ) → AreFreeBetween P h f i from here → (IsPlace P f i here → IsTrue (is_live h (variable_at P f i) here) → IsFree P h f i here) → AreFreeBetween P h f i from (here + 1)
passed_value P h f i from here before one = λ a l m place live. step a l (omega (arith, m)) place live (cases_eq a here)
  where
    step : (a : ℕ) → from ≤ a → a ≤ here → IsPlace P f i a → IsTrue (is_live h (variable_at P f i) a) → (a ≡ here) ⊎ (a ≢ here) → IsFree P h f i a
    step a l m place live (inl same) = subst (IsFree P h f i) (sym same) (one (subst (IsPlace P f i) same place) (subst (λ b. IsTrue (is_live h (variable_at P f i) b)) same live))
    step a l m place live (inr other) = before a l (omega (arith, m, other)) place live
