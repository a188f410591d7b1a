-- A line's scan, turned to a value, passes both places of its function by one choice each.
use Rattle.std.proofs.Common.{◌≡◌, ℕ, zero, suc, ◌+◌, ◌-◌, ◌*◌, ◌%◌, ◌^◌, ◌<◌, true≢false, true, false, not, ◌&&◌, ◌||◌, List, [], ◌∷◌, length, refl, sym, ap, subst, ◌∙◌, arith}
use Rattle.std.proofs.lemmas.Bool.{and_parts, and_from}
use Rattle.std.specs.Prelude.{Option, Some, None, nat_lt, slice_index, slice_index_or, ◌==◌, if◌then◌else◌, IsTrue, MatchOption}
use Rattle.cfn_model.specs.declared.step.Event.{Event}
use Rattle.cfn_model.specs.Network.{Network, scope_at, variable_at, dims_at}
use Rattle.cfn_model.specs.Sums.{is_live}
use Rattle.cfn_model.specs.Steps.{IsPlace}
use Rattle.cfn_net.proofs.CallerLemmas.{get_or-dims}
use Rattle.cfn_scan.specs.declared.scan.Scan.{Scan}
use Rattle.cfn_scan.specs.declared.scan.Pin.{Pin}
use Rattle.cfn_scan.specs.declared.scan.Spot.{Spot}
use Rattle.cfn_scan.specs.declared.scan.Extreme.{Extreme}
use Rattle.cfn_scan.specs.declared.scan.Sense.{Sense}
use Rattle.cfn_scan.specs.declared.scan.Sense.TheVariants.{Least, Greatest}
use Rattle.cfn_scan.specs.declared.line.Line.{Line}
use Rattle.cfn_scan.specs.Extremes.{NoneBetween, IsLeastBetween, IsExtremeBetween}
use Rattle.cfn_scan.specs.Scanning.{IsSpot, IsInner, AreChoices, IsMet, NoneMet, IsFound, Before, is_met, word_of, agrees, may_stand}
use Rattle.cfn_scan.specs.Reading.{Reads, start}
use Rattle.cfn_scan.specs.Lines.{Way, IsWay, IsRead, IsAlongWay, IsAlong, other_size, scope_of, turned_to, first_value, second_value, middle_of, end_of}
use Rattle.cfn_scan.proofs.Scans.{Passed, passed_none, passed_more, match_through, small_word}
use Rattle.cfn_scan.proofs.Extremes.{extreme, least}

-- what is asked for at its own place agrees, and nothing else does; at another place anything does
agrees_here : (p v : ℕ) → agrees (record { place = p; value = v }) p v ≡ true
agrees_here p v = (let e : (v == v) ≡ true = grind arith in let f : (p == p) ≡ true = grind arith in ap (λ t. not t || (v == v)) f ∙ e)

agrees_only : (p v a : ℕ) → agrees (record { place = p; value = v }) p a ≡ true → a ≡ v
agrees_only p v a h = (let f : (p == p) ≡ true = grind arith in let e : (a == v) ≡ true = sym (ap (λ t. not t || (a == v)) f) ∙ h in grind (arith, e))

agrees_apart : (p q v a : ℕ) → (p ≡ q → ⊥) → agrees (record { place = q; value = v }) p a ≡ true
agrees_apart p q v a apart = (let e : (p == q) ≡ false = grind (arith, apart) in ap (λ t. not t || (a == v)) e)

pub two_of : (xs : List ℕ) → length xs ≡ 2 → xs ≡ slice_index xs 0 ∷ slice_index xs 1 ∷ []
two_of [] two = absurd (omega (arith, two))
two_of (x ∷ []) two = absurd (omega (arith, two))
two_of (x ∷ (y ∷ [])) two = refl
two_of (x ∷ (y ∷ (z ∷ xs))) two = absurd (omega (arith, two))

-- one value may stand at a place
one_stands : (scan : Scan) (place x v : ℕ) → v < slice_index scan.sizes.now x → IsTrue (may_stand scan place x v) → ((a : ℕ) → IsTrue (may_stand scan place x a) → a ≡ v) → AreChoices scan place x (v ∷ [])
one_stands scan place x v small stands only = record {
  stand = here;
  all = λ a l m. (0, omega arith, sym (only a m));
}
  where
    here : (i : ℕ) → i < length (v ∷ []) → (slice_index (v ∷ []) i < slice_index scan.sizes.now x) × IsTrue (may_stand scan place x (slice_index (v ∷ []) i))
    here zero l = (small, stands)
    here (suc i) l = absurd (omega (arith, l))

-- what a value at a place of the function is for the scan
size_at : (P : Network) (history : List Event) (f i a j : ℕ) (line : Way) (p v : ℕ) → IsWay P history f i a j line → IsPlace P f p v → v < slice_index line.scan.sizes.now (slice_index (scope_of line) p)
size_at P history f i a j line p v is place =
    let size : slice_index (dims_at P f) p ≡ slice_index line.scan.sizes.now (slice_index (scope_of line) p) =
    get_or-dims P.sizes (scope_at P f) p place.place ∙ ap (λ sizes. slice_index sizes (slice_index (scope_at P f) p)) (sym is.reads.sizes) ∙ ap (λ scope. slice_index line.scan.sizes.now (slice_index scope p)) is.scope in
    let l = place.value in omega (arith, l, size)

live_at : (P : Network) (history : List Event) (f i a j : ℕ) (line : Way) (p v : ℕ) → IsWay P history f i a j line → IsTrue (is_live history (variable_at P f p) v) → is_live line.scan.live.now.history (slice_index (scope_of line) p) v ≡ true
live_at P history f i a j line p v is live = is.reads.live (slice_index (scope_of line) p) v ∙ ap (λ scope. is_live history (slice_index scope p) v) (sym is.scope) ∙ live

-- at the line's own place its value alone may stand, and at the other place the value that is asked for
at_one : (P : Network) (history : List Event) (f i a j : ℕ) (line : Way) (b : ℕ) → IsAlongWay P history f i a j line b → AreChoices (turned_to line b) i (slice_index (scope_of line) i) (a ∷ [])
at_one P history f i a j line b along =
    let is = along.is_way in
    let x = slice_index (scope_of line) i in
    let apart : i ≡ line.other → ⊥ = λ e. is.different (e ∙ is.other) in
    one_stands (turned_to line b) i x a (size_at P history f i a j line i a is is.place)
    (and_from _ _ (live_at P history f i a j line i a is is.live) (and_from _ _ (ap (λ pin. agrees pin i a) is.one ∙ agrees_here i a) (agrees_apart i line.other b a apart)))
    (λ v may. agrees_only i a v (ap (λ pin. agrees pin i v) (sym is.one) ∙ (and_parts (agrees line.scan.one i v) (agrees (record { place = line.other; value = b }) i v) (and_parts (is_live line.scan.live.now.history x v) _ may).1).0))

at_other : (P : Network) (history : List Event) (f i a j : ℕ) (line : Way) (b : ℕ) → IsAlongWay P history f i a j line b → AreChoices (turned_to line b) j (slice_index (scope_of line) j) (b ∷ [])
at_other P history f i a j line b along =
    let is = along.is_way in
    let x = slice_index (scope_of line) j in
    let apart : j ≡ i → ⊥ = λ e. is.different (sym e) in
    let here : (v : ℕ) → agrees (record { place = line.other; value = b }) j v ≡ agrees (record { place = j; value = b }) j v = λ v. ap (λ p. agrees (record { place = p; value = b }) j v) is.other in
    one_stands (turned_to line b) j x b (size_at P history f i a j line j b is along.place)
    (and_from _ _ (live_at P history f i a j line j b is along.live) (and_from _ _ (ap (λ pin. agrees pin j b) is.one ∙ agrees_apart j i a b apart) (here b ∙ agrees_here j b)))
    (λ v may. agrees_only j b v (sym (here v) ∙ (and_parts (agrees line.scan.one j v) (agrees (record { place = line.other; value = b }) j v) (and_parts (is_live line.scan.live.now.history x v) _ may).1).1))

-- the values of the tuple, in the order of the scope
pub record Sides (line : Way) (b : ℕ) : Type 0 where
  pub first : AreChoices (turned_to line b) 0 line.first (first_value line b ∷ [])
  pub second : AreChoices (turned_to line b) 1 line.second (second_value line b ∷ [])
  pub first_small : first_value line b < slice_index line.scan.sizes.now line.first
  pub second_small : second_value line b < slice_index line.scan.sizes.now line.second

turned_round : (line : Way) (i a b : ℕ) → line.scan.one ≡ record { place = i; value = a } → line.other ≡ 0 → (b ≡ first_value line b) × (a ≡ second_value line b)
turned_round line i a b one other = (
  sym (ap (λ o. if o == 0 then b else line.scan.one.value) other),
  sym (ap (λ o. if o == 0 then line.scan.one.value else b) other ∙ ap (λ (pin : Pin). pin.value) one),
)

in_order : (line : Way) (i a b : ℕ) → line.scan.one ≡ record { place = i; value = a } → line.other ≡ 1 → (a ≡ first_value line b) × (b ≡ second_value line b)
in_order line i a b one other = (
  sym (ap (λ o. if o == 0 then b else line.scan.one.value) other ∙ ap (λ (pin : Pin). pin.value) one),
  sym (ap (λ o. if o == 0 then line.scan.one.value else b) other),
)

pub sides : (P : Network) (history : List Event) (f i a j : ℕ) (line : Way) (b : ℕ) → IsAlongWay P history f i a j line b → Sides line b
sides P history f zero a zero line b along = absurd (along.is_way.different refl)
sides P history f zero a (suc zero) line b along =
    let is = along.is_way in
    let same = in_order line 0 a b is.one is.other in
    record {
      first = subst (λ v. AreChoices (turned_to line b) 0 line.first (v ∷ [])) same.0 (at_one P history f 0 a 1 line b along);
      second = subst (λ v. AreChoices (turned_to line b) 1 line.second (v ∷ [])) same.1 (at_other P history f 0 a 1 line b along);
      first_small = subst (λ v. v < slice_index line.scan.sizes.now line.first) same.0 (size_at P history f 0 a 1 line 0 a is is.place);
      second_small = subst (λ v. v < slice_index line.scan.sizes.now line.second) same.1 (size_at P history f 0 a 1 line 1 b is along.place);
    }
sides P history f (suc zero) a zero line b along =
    let is = along.is_way in
    let same = turned_round line 1 a b is.one is.other in
    record {
      first = subst (λ v. AreChoices (turned_to line b) 0 line.first (v ∷ [])) same.0 (at_other P history f 1 a 0 line b along);
      second = subst (λ v. AreChoices (turned_to line b) 1 line.second (v ∷ [])) same.1 (at_one P history f 1 a 0 line b along);
      first_small = subst (λ v. v < slice_index line.scan.sizes.now line.first) same.0 (size_at P history f 1 a 0 line 0 b is along.place);
      second_small = subst (λ v. v < slice_index line.scan.sizes.now line.second) same.1 (size_at P history f 1 a 0 line 1 a is is.place);
    }
sides P history f (suc zero) a (suc zero) line b along = absurd (along.is_way.different refl)
sides P history f zero a (suc (suc j)) line b along = absurd (let l = along.is_way.other_place in omega (arith, l))
sides P history f (suc zero) a (suc (suc j)) line b along = absurd (let l = along.is_way.other_place in omega (arith, l))
sides P history f (suc (suc i)) a j line b along = absurd (let l = along.is_way.place.place in let two = ap length along.is_way.scope in omega (arith, l, two))

-- the line's spot is one for the scan that is turned to a value too
turned_spot : (P : Network) (history : List Event) (f i a j : ℕ) (line : Way) (b : ℕ) → IsAlongWay P history f i a j line b → IsSpot (turned_to line b) (scope_of line) start
turned_spot P history f i a j line b along =
    let is = along.is_way in
    record {
      variables = is.spot.variables;
      sizes = is.spot.sizes;
      one = is.spot.one;
      two = λ p l e. subst (λ q. b < slice_index line.scan.sizes.now (slice_index (scope_of line) q)) (let o = is.other in omega (arith, e, o)) (size_at P history f i a j line j b is along.place);
      inhabited = is.spot.inhabited;
      cells = is.spot.cells;
      few = is.spot.few;
      flags = is.spot.flags;
      offset = is.spot.offset;
      places = is.spot.places;
    }

pub first_inner : (P : Network) (history : List Event) (f i a j : ℕ) (line : Way) (b : ℕ) → IsAlongWay P history f i a j line b → IsInner (turned_to line b) line.first (first_value line b) start
first_inner P history f i a j line b along = record {
  scope = line.second ∷ [];
  spot_is = turned_spot P history f i a j line b along;
  value_is = (sides P history f i a j line b along).first_small;
}

through : (P : Network) (history : List Event) (f i a j : ℕ) (line : Way) (b : ℕ) → IsAlongWay P history f i a j line b → Passed (turned_to line b) (scope_of line) start 1 (middle_of line b)
through P history f i a j line b along =
    passed_more (turned_to line b) (scope_of line) start 0 start (first_value line b ∷ []) (passed_none (turned_to line b) (scope_of line) start (turned_spot P history f i a j line b along)) (omega arith) (sides P history f i a j line b along).first refl

pub second_inner : (P : Network) (history : List Event) (f i a j : ℕ) (line : Way) (b : ℕ) → IsAlongWay P history f i a j line b → IsInner (turned_to line b) line.second (second_value line b) (middle_of line b)
second_inner P history f i a j line b along = record {
  scope = [];
  spot_is = (through P history f i a j line b along).spot_is;
  value_is = (sides P history f i a j line b along).second_small;
}

whole : (P : Network) (history : List Event) (f i a j : ℕ) (line : Way) (b : ℕ) → IsAlongWay P history f i a j line b → Passed (turned_to line b) (scope_of line) start 2 (end_of line b)
whole P history f i a j line b along =
    passed_more (turned_to line b) (scope_of line) start 1 (middle_of line b) (second_value line b ∷ []) (through P history f i a j line b along) (omega arith) (sides P history f i a j line b along).second refl

pub end_spot : (P : Network) (history : List Event) (f i a j : ℕ) (line : Way) (b : ℕ) → IsAlongWay P history f i a j line b → IsSpot (turned_to line b) [] (end_of line b)
end_spot P history f i a j line b along = (whole P history f i a j line b along).spot_is

-- what is found at the end is the least between the two values
pub found_between : (P : Network) (history : List Event) (f i a j : ℕ) (line : Way) (b : ℕ) (found : Option Extreme) → IsAlongWay P history f i a j line b → MatchOption found (NoneMet (turned_to line b) [] (end_of line b)) (IsFound (turned_to line b) [] (end_of line b)) → MatchOption found (NoneBetween P history f i a j b) (IsLeastBetween P history f i a j b)
found_between P history f i a j line b found along end =
    let is = along.is_way in
    let scan = turned_to line b in
    let passed = whole P history f i a j line b along in
    let top = match_through scan (scope_of line) [] start (end_of line b) found passed.none passed.found end in
    let reads : Reads P history f scan = record {
      function = is.reads.function;
      sizes = is.reads.sizes;
      table = is.reads.table;
      upper = is.reads.upper;
      live = is.reads.live;
      flags = is.reads.flags;
      shifts = is.reads.shifts;
    } in
    let two = ap length is.scope in
    let other : record { place = line.other; value = b } ≡ record { place = j; value = b } = ap (λ p. record { place = p; value = b }) is.other in
    let between = extreme P history f (record { place = i; value = a }) (record { place = j; value = b }) scan found reads is.one other is.exact is.place.place (let l = is.other_place in omega (arith, l, two)) (λ rest. small_word scan (scope_at P f) start rest)
    (subst (λ scope. MatchOption found (NoneMet scan scope start) (IsFound scan scope start)) (sym is.scope) top) in
    least P history f i a j b found (subst (λ sense. MatchOption found (NoneBetween P history f i a j b) (IsExtremeBetween P history f i a j b sense)) is.sense between)

-- a tuple that is complete
before_same : (sense : Sense) (cost word : ℕ) → word ≡ cost → Before sense cost word
before_same Least cost word e = omega (arith, e)
before_same Greatest cost word e = omega (arith, e)

none_at_end : (scan : Scan) (spot : Spot) → is_met scan [] spot [] ≡ false → NoneMet scan [] spot
none_at_end scan spot unmet [] met = true≢false (sym met.met ∙ unmet)
none_at_end scan spot unmet (x ∷ rest) met = met.fits

found_at_end : (scan : Scan) (spot : Spot) (found : Extreme) → is_met scan [] spot [] ≡ true → word_of scan [] spot [] ≡ found.cost → spot.cell ≡ found.cell → IsFound scan [] spot found
found_at_end scan spot found met word number = record {
  rest = [];
  met = record { fits = tt {0}; met = met };
  word = word;
  cell = number;
  first = only;
}
  where
    only : (other : List ℕ) → IsMet scan [] spot other → Before scan.sense found.cost (word_of scan [] spot other)
    only [] met = before_same scan.sense found.cost (word_of scan [] spot []) word
    only (x ∷ other) met = absurd met.fits

-- a line reads the tuple at the end of its way
module _ (P : Network) (history : List Event) (f i a j : ℕ) (line : Line) (b : ℕ) (along : IsAlong P history f i a j line b) where
  abbrev pub way : Way
  way = along.is_line.way

  read : IsRead way line
  read = along.is_line.is_read

  on_way : IsAlongWay P history f i a j way b
  on_way = record { is_way = along.is_line.is_way; place = along.place; live = along.live }

  pub other_small : b < other_size way
  other_small = small j along.is_line.is_way.other along.is_line.is_way.other_place (size_at P history f i a j way j b along.is_line.is_way along.place)
    where
      small : (k : ℕ) → way.other ≡ k → k < 2 → b < slice_index way.scan.sizes.now (slice_index (scope_of way) k) → b < other_size way
      small zero e l h = subst (λ o. b < slice_index way.scan.sizes.now (if o == 0 then way.first else way.second)) (sym e) h
      small (suc zero) e l h = subst (λ o. b < slice_index way.scan.sizes.now (if o == 0 then way.first else way.second)) (sym e) h
      small (suc (suc k)) e l h = absurd (omega (arith, l))

  pub cell_is : line.base + b * line.stride ≡ (end_of way b).cell
  cell_is = read.cells b other_small

  pub cell_there : (line.base + b * line.stride < length line.table.now) × (line.base + b * line.stride < length line.flags.now) × (line.base + b * line.stride < 2 ^ 32)
  cell_there =
      let spot = end_spot P history f i a j way b on_way in
      let c = spot.cells in
      let few = spot.few in
      let same = spot.flags in
      let t = ap length read.table in
      let g = ap length read.flags in
      let e = cell_is in
      (omega (arith, c, t, e), omega (arith, c, t, e, same, g), omega (arith, c, t, e, few))

  pub value_there : b < length line.shifts.now
  value_there = read.there b other_small

  met_is : is_met (turned_to way b) [] (end_of way b) [] ≡ nat_lt (slice_index line.table.now (line.base + b * line.stride)) line.upper && not (slice_index_or line.flags.now (line.base + b * line.stride) false)
  met_is = sym (
      ap (λ n. nat_lt (slice_index line.table.now n) line.upper && not (slice_index_or line.flags.now n false)) cell_is
      ∙ ap (λ t. nat_lt (slice_index t (end_of way b).cell) line.upper && not (slice_index_or line.flags.now (end_of way b).cell false)) read.table
      ∙ ap (λ u. nat_lt (slice_index way.scan.table.now (end_of way b).cell) u && not (slice_index_or line.flags.now (end_of way b).cell false)) read.upper
      ∙ ap (λ g. nat_lt (slice_index way.scan.table.now (end_of way b).cell) way.scan.upper && not (slice_index_or g (end_of way b).cell false)) read.flags)

  pub line_none : nat_lt (slice_index line.table.now (line.base + b * line.stride)) line.upper && not (slice_index_or line.flags.now (line.base + b * line.stride) false) ≡ false → NoneBetween P history f i a j b
  line_none unmet = found_between P history f i a j way b None on_way (none_at_end (turned_to way b) (end_of way b) (met_is ∙ unmet))

  pub line_found : (found : Extreme) → nat_lt (slice_index line.table.now (line.base + b * line.stride)) line.upper && not (slice_index_or line.flags.now (line.base + b * line.stride) false) ≡ true →
      found.cell ≡ line.base + b * line.stride →
      found.cost ≡ (slice_index line.table.now (line.base + b * line.stride) + (2 ^ 64 - (line.own + slice_index line.shifts.now b) % 2 ^ 64)) % 2 ^ 64 →
      IsLeastBetween P history f i a j b found
  line_found found met number cost = found_between P history f i a j way b (Some found) on_way
      (found_at_end (turned_to way b) (end_of way b) found (met_is ∙ met)
      (sym (cost
      ∙ ap (λ n. (slice_index line.table.now n + (2 ^ 64 - (line.own + slice_index line.shifts.now b) % 2 ^ 64)) % 2 ^ 64) cell_is
      ∙ ap (λ t. (slice_index t (end_of way b).cell + (2 ^ 64 - (line.own + slice_index line.shifts.now b) % 2 ^ 64)) % 2 ^ 64) read.table
      ∙ ap (λ m. (slice_index way.scan.table.now (end_of way b).cell + (2 ^ 64 - m)) % 2 ^ 64) (read.moved b other_small)))
      (sym (number ∙ cell_is)))
