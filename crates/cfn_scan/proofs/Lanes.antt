-- A row whose values lie together, all of which are looked at for the least cost.
use Rattle.std.proofs.Common.{◌≡◌, ℕ, zero, suc, ◌+◌, ◌-◌, ◌*◌, ◌%◌, ◌<◌, ◌≤◌, Bool, true, false, not, nat_lt, List, [], ◌∷◌, length, drop, slice_index, slice_index_or, slice_range, get_or-take, get_or-drop, length-take-le, length-drop, refl, sym, ap, subst, ◌∙◌, inl, inr, arith, ltb-true, lt-ltb, ne_eqb}
use Rattle.std.proofs.lemmas.Bool.{and_parts, and_from, or_left, not_from_false, cases_Bool, cases_eq}
use Rattle.std.specs.Prelude.{IsTrue, if◌then◌else◌}
use Rattle.cfn_model.specs.declared.step.Event.{Event}
use Rattle.cfn_model.specs.Sums.{is_live}
use Rattle.cfn_rows.specs.Sets.{live_below}
use Rattle.cfn_rows.proofs.CallerLemmas.{live_below_most}
use Rattle.cfn_scan.specs.declared.rows.Row.{Row}
use Rattle.cfn_scan.specs.declared.rows.Found.{Found}
use Rattle.cfn_scan.specs.Rows.{IsOpenAt, NoneOpen, IsLeastOpen, left_at}
use Rattle.cfn_scan.specs.declared.scan.Scan.{Scan}
use Rattle.cfn_scan.specs.declared.scan.Spot.{Spot}
use Rattle.cfn_scan.specs.declared.scan.Pin.{Pin}
use Rattle.cfn_scan.specs.declared.scan.Sense.TheVariants.{Least}
use Rattle.cfn_scan.specs.Scanning.{IsSpot, IsLane, NoneMet, IsFound, IsMet, Before, is_met, word_of, gone_on, may_stand, agrees}

-- a part of a list has the list's items
pub range_at : {A : Type 0} (xs : List A) (a n i : ℕ) (d : A) → i < n → slice_index_or (slice_range xs a (a + n)) i d ≡ slice_index_or xs (a + i) d
range_at xs a n i d l = get_or-take (a + n - a) (drop a xs) i d (omega (arith, l)) ∙ get_or-drop a xs i d

pub range_long : {A : Type 0} (xs : List A) (a n : ℕ) → a + n ≤ length xs → length (slice_range xs a (a + n)) ≡ n
range_long xs a n l =
    let whole : length (drop a xs) ≡ length xs - a = length-drop a xs in
    let same : a + n - a ≡ n = omega arith in
    length-take-le (a + n - a) (drop a xs) (omega (arith, l, whole)) ∙ same

-- what a row is given to read
pub record IsLaneRow (scan : Scan) (x : ℕ) (spot : Spot) (row : Row) : Type 0 where
  pub size : length row.entries.now ≡ slice_index scan.sizes.now x
  pub entries : (v : ℕ) → v < slice_index scan.sizes.now x → slice_index row.entries.now v ≡ slice_index scan.table.now (spot.cell * slice_index scan.sizes.now x + v)
  pub shifted : (v : ℕ) → v < slice_index scan.sizes.now x → slice_index row.shifted.now v ≡ slice_index scan.shifts.now (spot.offset + v)
  pub cut : (v : ℕ) → v < slice_index scan.sizes.now x → slice_index_or row.cut.now v false ≡ slice_index_or scan.flags.now (spot.cell * slice_index scan.sizes.now x + v) false
  pub own : row.own ≡ spot.shift
  pub bound : row.bound ≡ scan.upper

abbrev place : Scan → ℕ → Spot → ℕ → ℕ
place scan x spot v = spot.cell * slice_index scan.sizes.now x + v

not_true : (b : Bool) → not b ≡ true → b ≡ false
not_true true e = sym e
not_true false e = refl

-- a value that is met stands at an open place, and one at an open place is met
met_open : (scan : Scan) (x : ℕ) (spot : Spot) (row : Row) (v : ℕ) → IsLaneRow scan x spot row → IsMet scan (x ∷ []) spot (v ∷ []) → IsOpenAt row v
met_open scan x spot row v is met =
    let small : v < slice_index scan.sizes.now x = met.fits.0 in
    let here = (and_parts (may_stand scan spot.place x v) (is_met scan [] (gone_on scan spot (slice_index scan.sizes.now x) v) []) met.met).1 in
    let both = and_parts (nat_lt (slice_index scan.table.now (place scan x spot v)) scan.upper) (not (slice_index_or scan.flags.now (place scan x spot v) false)) here in
    let below : slice_index scan.table.now (place scan x spot v) < scan.upper = ltb-true _ _ both.0 in
    let size = is.size in let entry = is.entries v small in let bound = is.bound in
    record {
      there = omega (arith, small, size);
      below = omega (arith, below, entry, bound);
      uncut = is.cut v small ∙ not_true _ both.1;
    }

open_met : (scan : Scan) (x : ℕ) (spot : Spot) (row : Row) (v : ℕ) → IsLane scan (x ∷ []) spot → IsLaneRow scan x spot row → IsOpenAt row v → IsMet scan (x ∷ []) spot (v ∷ [])
open_met scan x spot row v lane is free =
    let small : v < slice_index scan.sizes.now x = (let t = free.there in let s = is.size in omega (arith, t, s)) in
    let below : slice_index scan.table.now (place scan x spot v) < scan.upper = (let b = free.below in let entry = is.entries v small in let bound = is.bound in omega (arith, b, entry, bound)) in
    record {
      fits = (small, tt);
      met = and_from (may_stand scan spot.place x v) (is_met scan [] (gone_on scan spot (slice_index scan.sizes.now x) v) []) (lane.stand v small)
          (and_from (nat_lt (slice_index scan.table.now (place scan x spot v)) scan.upper) (not (slice_index_or scan.flags.now (place scan x spot v) false)) (lt-ltb _ _ below) (not_from_false _ (sym (is.cut v small) ∙ free.uncut)));
    }

-- what is left at a place is the word of the value's tuple
word_left : (scan : Scan) (x : ℕ) (spot : Spot) (row : Row) (v : ℕ) → IsLaneRow scan x spot row → v < slice_index scan.sizes.now x → left_at row v ≡ word_of scan (x ∷ []) spot (v ∷ [])
word_left scan x spot row v is small =
    ap (λ n. (slice_index row.entries.now v + (18446744073709551616 - (row.own + n) % 18446744073709551616)) % 18446744073709551616) (is.shifted v small)
    ∙ ap (λ n. (slice_index row.entries.now v + (18446744073709551616 - (n + slice_index scan.shifts.now (spot.offset + v)) % 18446744073709551616)) % 18446744073709551616) is.own
    ∙ ap (λ n. (n + (18446744073709551616 - (spot.shift + slice_index scan.shifts.now (spot.offset + v)) % 18446744073709551616)) % 18446744073709551616) (is.entries v small)

-- no open place: no value is met
pub lane_none : (scan : Scan) (x : ℕ) (spot : Spot) (row : Row) → IsLaneRow scan x spot row → NoneOpen (length row.entries.now) row → NoneMet scan (x ∷ []) spot
lane_none scan x spot row is none [] met = absurd met.fits
lane_none scan x spot row is none (v ∷ []) met = let free = met_open scan x spot row v is met in none v free.there free
lane_none scan x spot row is none (v ∷ w ∷ rest) met = absurd met.fits.1

-- the place that was found is the value that stands first
pub lane_found : (scan : Scan) (x : ℕ) (spot : Spot) (row : Row) (found : Found) → IsLane scan (x ∷ []) spot → IsLaneRow scan x spot row → IsLeastOpen (length row.entries.now) row found → IsFound scan (x ∷ []) spot (record { cost = found.word; cell = spot.cell * slice_index scan.sizes.now x + found.place })
lane_found scan x spot row found lane is least = record {
  rest = found.place ∷ [];
  met = open_met scan x spot row found.place lane is least.at;
  word = sym (word_left scan x spot row found.place is (let w = least.within in let s = is.size in omega (arith, w, s))) ∙ least.word;
  cell = refl;
  first = others;
}
  where
    others : (other : List ℕ) → IsMet scan (x ∷ []) spot other → Before scan.sense found.word (word_of scan (x ∷ []) spot other)
    others [] met = absurd met.fits
    others (v ∷ []) met =
        let free = met_open scan x spot row v is met in
        subst (λ sense. Before sense found.word (word_of scan (x ∷ []) spot (v ∷ []))) (sym lane.least)
        (subst (λ n. found.word ≤ n) (word_left scan x spot row v is met.fits.0) (least.most v free.there free))
    others (v ∷ w ∷ rest) met = absurd met.fits.1

-- the row of a spot's values
pub lane_row : (scan : Scan) (x : ℕ) (spot : Spot) (row : Row) → IsSpot scan (x ∷ []) spot
    → row.entries.now ≡ slice_range scan.table.now (spot.cell * slice_index scan.sizes.now x) (spot.cell * slice_index scan.sizes.now x + slice_index scan.sizes.now x)
    → row.shifted.now ≡ slice_range scan.shifts.now spot.offset (spot.offset + slice_index scan.sizes.now x)
    → row.cut.now ≡ slice_range scan.flags.now (spot.cell * slice_index scan.sizes.now x) (spot.cell * slice_index scan.sizes.now x + slice_index scan.sizes.now x)
    → row.own ≡ spot.shift → row.bound ≡ scan.upper → IsLaneRow scan x spot row
lane_row scan x spot row there entries shifted cut own bound =
    let size = slice_index scan.sizes.now x in
    let begin = spot.cell * size in
    let cells : (spot.cell + 1) * (size * 1) ≤ length scan.table.now = there.cells in
    let grown : (spot.cell + 1) * (size * 1) ≡ begin + size = grind arith in
    record {
      size = ap length entries ∙ range_long scan.table.now begin size (omega (arith, cells, grown));
      entries = λ v l. ap (λ s. slice_index s v) entries ∙ range_at scan.table.now begin size v 0 l;
      shifted = λ v l. ap (λ s. slice_index s v) shifted ∙ range_at scan.shifts.now spot.offset size v 0 l;
      cut = λ v l. ap (λ s. slice_index_or s v false) cut ∙ range_at scan.flags.now begin size v false l;
      own = own;
      bound = bound;
    }

abbrev one_if : Bool → ℕ
one_if b = if b then 1 else 0

-- where as many values are live as there are, each is
all_live : (history : List Event) (x n a : ℕ) → live_below history x n ≡ n → a < n → IsTrue (is_live history x a)
all_live history x zero a all l = absurd (omega (arith, l))
all_live history x (suc n) a all l =
    let most = live_below_most history x n in
    elim (cases_Bool (is_live history x n)) [
      | inl live ↦ (let one : one_if (is_live history x n) ≡ 1 = ap one_if live in
          elim (cases_eq a n) [
            | inl last ↦ subst (λ v. IsTrue (is_live history x v)) (sym last) live
            | inr other ↦ all_live history x n a (omega (arith, all, one)) (omega (arith, l, other))
          ])
      | inr dead ↦ absurd (let none : one_if (is_live history x n) ≡ 0 = ap one_if dead in omega (arith, all, none, most))
    ]

-- at a place for which no value is asked each of them may stand
elsewhere : (pin : Pin) (place value : ℕ) → (place ≡ pin.place → ⊥) → agrees pin place value ≡ true
elsewhere pin place value other = or_left _ _ (not_from_false _ (ne_eqb place pin.place other))

pub all_stand : (scan : Scan) (scope : List ℕ) (spot : Spot) → IsSpot scan scope spot → length scope ≡ 1 → scan.sense ≡ Least → (spot.place ≡ scan.one.place → ⊥) → (spot.place ≡ scan.two.place → ⊥) → live_below scan.live.now.history (slice_index scope 0) (slice_index scan.live.now.sizes (slice_index scope 0)) ≡ slice_index scan.sizes.now (slice_index scope 0) → IsLane scan scope spot
all_stand scan scope spot is one least first second all = record {
  one = one;
  least = least;
  stand = λ a l. and_from _ _
      (all_live scan.live.now.history (slice_index scope 0) (slice_index scan.sizes.now (slice_index scope 0)) a (subst (λ sizes. live_below scan.live.now.history (slice_index scope 0) (slice_index sizes (slice_index scope 0)) ≡ slice_index scan.sizes.now (slice_index scope 0)) is.sizes all) l)
      (and_from _ _ (elsewhere scan.one spot.place a first) (elsewhere scan.two spot.place a second));
}
