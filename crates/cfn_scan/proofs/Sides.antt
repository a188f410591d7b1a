-- A side of a function of two variables: its lines read what a scan reads.
use Rattle.std.proofs.Common.{◌≡◌, ℕ, zero, suc, ◌+◌, ◌*◌, ◌%◌, ◌^◌, ◌<◌, ◌≤◌, List, [], ◌∷◌, length, refl, sym, ap, subst, ◌∙◌, arith, slice_index, mul-le-mul, le_refl}
use Rattle.std.specs.Prelude.{◌==◌, if◌then◌else◌, IsTrue}
use Rattle.cfn_model.specs.declared.step.Event.{Event}
use Rattle.cfn_model.specs.Network.{Network, scope_at, variable_at, dims_at}
use Rattle.cfn_model.specs.Sums.{is_live}
use Rattle.cfn_model.specs.Steps.{IsPlace}
use Rattle.cfn_net.proofs.CallerLemmas.{get_or-dims}
use Rattle.cfn_scan.specs.declared.scan.Scan.{Scan}
use Rattle.cfn_scan.specs.declared.line.Side.{Side}
use Rattle.cfn_scan.specs.Scanning.{IsSpot}
use Rattle.cfn_scan.specs.Reading.{start}
use Rattle.cfn_scan.specs.Lines.{Way, IsWay, IsRead, IsLine, IsSide, line_of}

value_small : (P : Network) (history : List Event) (f i j : ℕ) (side : Side) (is : IsSide P history f i j side) (p a : ℕ) → IsPlace P f p a → a < slice_index is.scan.sizes.now (slice_index (is.first ∷ is.second ∷ []) p)
value_small P history f i j side is p a place =
    let size : slice_index (dims_at P f) p ≡ slice_index is.scan.sizes.now (slice_index (is.first ∷ is.second ∷ []) p) =
    get_or-dims P.sizes (scope_at P f) p place.place ∙ ap (λ sizes. slice_index sizes (slice_index (scope_at P f) p)) (sym is.reads.sizes) ∙ ap (λ scope. slice_index is.scan.sizes.now (slice_index scope p)) is.scope in
    let l = place.value in omega (arith, l, size)

own_small : (P : Network) (history : List Event) (f i j : ℕ) (side : Side) (is : IsSide P history f i j side) (a : ℕ) → IsPlace P f i a → a < slice_index is.scan.sizes.now (if i == 0 then is.first else is.second)
own_small P history f zero j side is a place = value_small P history f zero j side is zero a place
own_small P history f (suc zero) j side is a place = value_small P history f (suc zero) j side is (suc zero) a place
own_small P history f (suc (suc i)) j side is a place = absurd (let e = is.places in omega (arith, e))

-- the variable at the other place
pub other_variable : (P : Network) (history : List Event) (f i j : ℕ) (side : Side) → IsSide P history f i j side → side.other ≡ variable_at P f j
other_variable P history f zero (suc zero) side is = is.is_side.other ∙ sym (ap (λ scope. slice_index scope 1) is.scope)
other_variable P history f (suc zero) zero side is = is.is_side.other ∙ sym (ap (λ scope. slice_index scope 0) is.scope)
other_variable P history f zero zero side is = absurd (let e = is.places in omega (arith, e))
other_variable P history f zero (suc (suc j)) side is = absurd (let e = is.places in omega (arith, e))
other_variable P history f (suc zero) (suc j) side is = absurd (let e = is.places in omega (arith, e))
other_variable P history f (suc (suc i)) j side is = absurd (let e = is.places in omega (arith, e))

-- the words of a value, and the number of its first tuple, are there
pub own_there : (P : Network) (history : List Event) (f i j : ℕ) (side : Side) → IsSide P history f i j side → (a : ℕ) → IsPlace P f i a → a < length side.own.now
own_there P history f i j side is a place = (is.is_side.own a (own_small P history f i j side is a place)).0

tuples : (scan : Scan) (first second : ℕ) → IsSpot scan (first ∷ second ∷ []) start → slice_index scan.sizes.now first * slice_index scan.sizes.now second ≤ 4194304
tuples scan first second spot =
    let m = slice_index scan.sizes.now first in
    let n = slice_index scan.sizes.now second in
    let cells = spot.cells in
    let few = spot.few in
    let whole : (0 + 1) * (m * (n * 1)) ≡ m * n = grind arith in
    omega (arith, cells, few, whole)

pub first_fits : (P : Network) (history : List Event) (f i j : ℕ) (side : Side) → IsSide P history f i j side → (a : ℕ) → IsPlace P f i a → a * side.step < 2 ^ 32
first_fits P history f zero j side is a place =
    let n = slice_index is.scan.sizes.now is.second in
    let l = value_small P history f zero j side is zero a place in
    let t = tuples is.scan is.first is.second is.spot in
    let p : a * n ≤ slice_index is.scan.sizes.now is.first * n = mul-le-mul (omega (arith, l)) (le_refl n) in
    let s : a * side.step ≡ a * n = ap (λ k. a * k) is.is_side.step in
    omega (arith, t, p, s)
first_fits P history f (suc zero) j side is a place =
    let l = value_small P history f (suc zero) j side is (suc zero) a place in
    let t = tuples is.scan is.first is.second is.spot in
    let some = is.spot.inhabited is.first (is.spot.variables zero (omega arith)) in
    let p : 1 * slice_index is.scan.sizes.now is.second ≤ slice_index is.scan.sizes.now is.first * slice_index is.scan.sizes.now is.second = mul-le-mul (omega (arith, some)) (le_refl (slice_index is.scan.sizes.now is.second)) in
    let s : a * side.step ≡ a * 1 = ap (λ k. a * k) is.is_side.step in
    omega (arith, t, p, s, l)
first_fits P history f (suc (suc i)) j side is a place = absurd (let e = is.places in omega (arith, e))

-- the scan that asks for the value of a line
abbrev pub way_of : (P : Network) (history : List Event) (f i j : ℕ) (side : Side) → IsSide P history f i j side → ℕ → Way
way_of P history f i j side is a = record {
  scan = record is.scan { one = record { place = i; value = a }; two = record { place = i; value = a } };
  first = is.first;
  second = is.second;
  other = j;
}

is_way : (P : Network) (history : List Event) (f i j : ℕ) (side : Side) (is : IsSide P history f i j side) (a : ℕ) → IsPlace P f i a → IsTrue (is_live history (variable_at P f i) a) → IsWay P history f i a j (way_of P history f i j side is a)
is_way P history f i j side is a place live =
    let there : (p : ℕ) → p < 2 → 0 + p ≡ i → a < slice_index is.scan.sizes.now (slice_index (is.first ∷ is.second ∷ []) p) = λ p l e.
    subst (λ q. a < slice_index is.scan.sizes.now (slice_index (is.first ∷ is.second ∷ []) q)) (let same : i ≡ p = omega (arith, e) in same) (value_small P history f i j side is i a place) in
    record {
      reads = record {
        function = is.reads.function;
        sizes = is.reads.sizes;
        table = is.reads.table;
        upper = is.reads.upper;
        live = is.reads.live;
        flags = is.reads.flags;
        shifts = is.reads.shifts;
      };
      exact = is.exact;
      sense = is.sense;
      scope = is.scope;
      spot = record {
        variables = is.spot.variables;
        sizes = is.spot.sizes;
        one = there;
        two = there;
        inhabited = is.spot.inhabited;
        cells = is.spot.cells;
        few = is.spot.few;
        flags = is.spot.flags;
        offset = is.spot.offset;
        places = is.spot.places;
      };
      place = place;
      live = live;
      one = refl;
      other = refl;
      other_place = (let e = is.places in omega (arith, e));
      different = λ same. (let e = is.places in omega (arith, e, same));
    }

-- what was moved away from a tuple, its first value's word first
both_words : (x y z w : ℕ) → z ≡ x → w ≡ y → (z + w) % 2 ^ 64 ≡ ((0 + x) % 2 ^ 64 + y) % 2 ^ 64
both_words x y z w first second = omega (arith, first, second)

turned_words : (x y z w : ℕ) → z ≡ x → w ≡ y → (w + z) % 2 ^ 64 ≡ ((0 + x) % 2 ^ 64 + y) % 2 ^ 64
turned_words x y z w first second = omega (arith, first, second)

behind : (m b : ℕ) → m + b ≡ (0 + m) + b
behind m b = omega arith

is_read : (P : Network) (history : List Event) (f i j : ℕ) (side : Side) (is : IsSide P history f i j side) (a : ℕ) → IsPlace P f i a → IsRead (way_of P history f i j side is a) (line_of side a)
is_read P history f zero (suc zero) side is a place = record {
  table = is.is_side.table;
  flags = is.is_side.flags;
  upper = is.is_side.upper;
  there = λ b l. (is.is_side.others b l).0;
  cells = λ b l. (let s = is.is_side.step in let t = is.is_side.stride in let e : a * side.step + b * side.stride ≡ a * slice_index is.scan.sizes.now is.second + b * 1 = ap (λ k. a * k + b * side.stride) s ∙ ap (λ k. a * slice_index is.scan.sizes.now is.second + b * k) t in omega (arith, e));
  moved = λ b l. both_words _ _ _ _ (is.is_side.own a (value_small P history f zero (suc zero) side is zero a place)).1 ((is.is_side.others b l).1 ∙ ap (λ n. slice_index is.scan.shifts.now n) (behind (slice_index is.scan.sizes.now is.first) b));
}
is_read P history f (suc zero) zero side is a place = record {
  table = is.is_side.table;
  flags = is.is_side.flags;
  upper = is.is_side.upper;
  there = λ b l. (is.is_side.others b l).0;
  cells = λ b l. (let s = is.is_side.step in let t = is.is_side.stride in let e : a * side.step + b * side.stride ≡ a * 1 + b * slice_index is.scan.sizes.now is.second = ap (λ k. a * k + b * side.stride) s ∙ ap (λ k. a * 1 + b * k) t in omega (arith, e));
  moved = λ b l. turned_words _ _ _ _ (is.is_side.others b l).1 ((is.is_side.own a (value_small P history f (suc zero) zero side is (suc zero) a place)).1 ∙ ap (λ n. slice_index is.scan.shifts.now n) (behind (slice_index is.scan.sizes.now is.first) a));
}
is_read P history f zero zero side is a place = absurd (let e = is.places in omega (arith, e))
is_read P history f zero (suc (suc j)) side is a place = absurd (let e = is.places in omega (arith, e))
is_read P history f (suc zero) (suc j) side is a place = absurd (let e = is.places in omega (arith, e))
is_read P history f (suc (suc i)) j side is a place = absurd (let e = is.places in omega (arith, e))

-- the line of a live value
pub side_line : (P : Network) (history : List Event) (f i j : ℕ) (side : Side) → IsSide P history f i j side → (a : ℕ) → IsPlace P f i a → IsTrue (is_live history (variable_at P f i) a) → IsLine P history f i a j (line_of side a)
side_line P history f i j side is a place live = record {
  way = way_of P history f i j side is a;
  is_way = is_way P history f i j side is a place live;
  is_read = is_read P history f i j side is a place;
}
