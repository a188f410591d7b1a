-- How what a scan finds behind each choice makes what it finds.
use Rattle.std.proofs.Common.{◌≡◌, ℕ, suc, ◌+◌, ◌*◌, ◌%◌, ◌^◌, ◌<◌, ◌≤◌, List, [], ◌∷◌, length, refl, sym, ap, subst, ◌∙◌, inl, inr, arith}
use Rattle.std.proofs.lemmas.Bool.{cases_eq, and_parts, and_from}
use Rattle.std.proofs.lemmas.List.{drop_more, drop_all}
use Rattle.std.proofs.Math.Nat.{mul-le-mul_left, mul-le-mul_right, mul_assoc}
use Rattle.std.specs.Prelude.{Option, Some, None, slice_index, drop, IsTrue, IsSomeAnd, MatchOption}
use Rattle.cfn_model.specs.Network.{dims, cells, cell_from}
use Rattle.cfn_net.proofs.CallerLemmas.{cells-drop-pos, Inhabited-dims}
use Rattle.cfn_scan.specs.Shifts.{offset}
use Rattle.cfn_scan.specs.declared.scan.Scan.{Scan}
use Rattle.cfn_scan.specs.declared.scan.Spot.{Spot}
use Rattle.cfn_scan.specs.declared.scan.Tail.{Tail}
use Rattle.cfn_scan.specs.declared.scan.Extreme.{Extreme}
use Rattle.cfn_scan.specs.declared.scan.Sense.{Sense}
use Rattle.cfn_scan.specs.declared.scan.Sense.TheVariants.{Least, Greatest}
use Rattle.cfn_scan.specs.Scanning.{IsSpot, AreChoices, NoneMet, IsFound, IsMet, IsSooner, Before, is_met, word_of, gone_on, may_stand, ended, key, found_with, IsTail}

abbrev behind : Scan → ℕ → Spot → ℕ → Spot
behind scan x spot value = gone_on scan spot (slice_index scan.sizes.now x) value

-- values that are met are a value that may stand, and values that are met behind it
pub met_of : (scan : Scan) (x : ℕ) (scope : List ℕ) (spot : Spot) (value : ℕ) (rest : List ℕ) → value < slice_index scan.sizes.now x → IsTrue (may_stand scan spot.place x value) → IsMet scan scope (behind scan x spot value) rest → IsMet scan (x ∷ scope) spot (value ∷ rest)
met_of scan x scope spot value rest small stands met = record {
  fits = (small, met.fits);
  met = and_from (may_stand scan spot.place x value) (is_met scan scope (behind scan x spot value) rest) stands met.met;
}

pub met_behind : (scan : Scan) (x : ℕ) (scope : List ℕ) (spot : Spot) (value : ℕ) (rest : List ℕ) → IsMet scan (x ∷ scope) spot (value ∷ rest) → (value < slice_index scan.sizes.now x) × IsTrue (may_stand scan spot.place x value) × IsMet scan scope (behind scan x spot value) rest
met_behind scan x scope spot value rest met =
    let b = and_parts (may_stand scan spot.place x value) (is_met scan scope (behind scan x spot value) rest) met.met in
    (met.fits.0, b.0, record { fits = met.fits.1; met = b.1 })

pub record IsFirst (scan : Scan) (x : ℕ) (scope : List ℕ) (spot : Spot) (values : List ℕ) (n : ℕ) (found : Extreme) : Type 0 where
  pub choice : ℕ
  pub within : choice < n
  pub rest : List ℕ
  pub met : IsMet scan scope (behind scan x spot (slice_index values choice)) rest
  pub word : word_of scan scope (behind scan x spot (slice_index values choice)) rest ≡ found.cost
  pub cell : cell_from (behind scan x spot (slice_index values choice)).cell (dims scan.sizes.now scope) rest ≡ found.cell
  pub first : (j : ℕ) (other : List ℕ) → j < n → IsMet scan scope (behind scan x spot (slice_index values j)) other → Before scan.sense found.cost (word_of scan scope (behind scan x spot (slice_index values j)) other)

-- what was found behind the choices below a number
abbrev pub FirstOf : Scan → ℕ → List ℕ → Spot → List ℕ → ℕ → Option Extreme → Type 0
FirstOf scan x scope spot values n None = (j : ℕ) → j < n → NoneMet scan scope (behind scan x spot (slice_index values j))
FirstOf scan x scope spot values n (Some found) = IsFirst scan x scope spot values n found

-- nothing is found behind no choice
pub first_of_none : (scan : Scan) (x : ℕ) (scope : List ℕ) (spot : Spot) (values : List ℕ) → FirstOf scan x scope spot values 0 None
first_of_none scan x scope spot values j l rest met = omega (arith, l)

before_same : (sense : Sense) (word : ℕ) → Before sense word word
before_same Least word = omega arith
before_same Greatest word = omega arith

before_trans : (sense : Sense) (a b c : ℕ) → Before sense a b → Before sense b c → Before sense a c
before_trans Least a b c h k = omega (arith, h, k)
before_trans Greatest a b c h k = omega (arith, h, k)

-- a bound on what is below a number and on the next is one on what is below the next number
below_next : (n : ℕ) (Q : ℕ → Type 0) → ((j : ℕ) → j < n → Q j) → Q n → (j : ℕ) → j < n + 1 → Q j
below_next n Q below here j l = elim (cases_eq n j) [
  | inl e ↦ subst Q e here
  | inr e ↦ below j (omega (arith, l, e))
]

-- the choice that was there stays first
kept : (scan : Scan) (x : ℕ) (scope : List ℕ) (spot : Spot) (values : List ℕ) (n : ℕ) (found : Extreme) → IsFirst scan x scope spot values n found → ((other : List ℕ) → IsMet scan scope (behind scan x spot (slice_index values n)) other → Before scan.sense found.cost (word_of scan scope (behind scan x spot (slice_index values n)) other)) → IsFirst scan x scope spot values (n + 1) found
kept scan x scope spot values n found old last = record {
  choice = old.choice;
  within = let w = old.within in omega (arith, w);
  rest = old.rest;
  met = old.met;
  word = old.word;
  cell = old.cell;
  first = λ j other l met. below_next n (λ i. (others : List ℕ) → IsMet scan scope (behind scan x spot (slice_index values i)) others → Before scan.sense found.cost (word_of scan scope (behind scan x spot (slice_index values i)) others)) (λ i m others n_met. old.first i others m n_met) last j l other met;
}

-- the new choice is first
taken : (scan : Scan) (x : ℕ) (scope : List ℕ) (spot : Spot) (values : List ℕ) (n : ℕ) (found : Extreme) → IsFound scan scope (behind scan x spot (slice_index values n)) found → ((j : ℕ) (other : List ℕ) → j < n → IsMet scan scope (behind scan x spot (slice_index values j)) other → Before scan.sense found.cost (word_of scan scope (behind scan x spot (slice_index values j)) other)) → IsFirst scan x scope spot values (n + 1) found
taken scan x scope spot values n found new below = record {
  choice = n;
  within = omega arith;
  rest = new.rest;
  met = new.met;
  word = new.word;
  cell = new.cell;
  first = λ j other l met. below_next n (λ i. (others : List ℕ) → IsMet scan scope (behind scan x spot (slice_index values i)) others → Before scan.sense found.cost (word_of scan scope (behind scan x spot (slice_index values i)) others)) (λ i m others n_met. below i others m n_met) new.first j l other met;
}

pub next_choice : (scan : Scan) (x : ℕ) (scope : List ℕ) (spot : Spot) (values : List ℕ) (n : ℕ) (first other result : Option Extreme) → FirstOf scan x scope spot values n first → MatchOption other (NoneMet scan scope (behind scan x spot (slice_index values n))) (IsFound scan scope (behind scan x spot (slice_index values n))) → IsSooner scan.sense first other result → FirstOf scan x scope spot values (n + 1) result
next_choice scan x scope spot values n None None result below new is =
    subst (FirstOf scan x scope spot values (n + 1)) (sym is) (below_next n (λ j. NoneMet scan scope (behind scan x spot (slice_index values j))) below new)
next_choice scan x scope spot values n None (Some b) result below new is =
    subst (FirstOf scan x scope spot values (n + 1)) (sym is) (taken scan x scope spot values n b new (λ j other l met. absurd (below j l other met)))
next_choice scan x scope spot values n (Some a) None result old new is =
    subst (FirstOf scan x scope spot values (n + 1)) (sym is) (kept scan x scope spot values n a old (λ other met. absurd (new other met)))
next_choice scan x scope spot values n (Some a) (Some b) result old new is = elim is.4 [
  | inl e ↦ subst (FirstOf scan x scope spot values (n + 1)) (sym (is.1 ∙ ap Some e)) (kept scan x scope spot values n a old (λ other met. before_trans scan.sense a.cost b.cost (word_of scan scope (behind scan x spot (slice_index values n)) other) (subst (λ f. Before scan.sense f.cost b.cost) e is.3) (new.first other met)))
  | inr e ↦ subst (FirstOf scan x scope spot values (n + 1)) (sym (is.1 ∙ ap Some e)) (taken scan x scope spot values n b new (λ j other l met. before_trans scan.sense b.cost a.cost (word_of scan scope (behind scan x spot (slice_index values j)) other) (subst (λ f. Before scan.sense f.cost a.cost) e is.2) (old.first j other l met)))
]

-- what is first of all choices is what is found
pub all_choices : (scan : Scan) (x : ℕ) (scope : List ℕ) (spot : Spot) (values : List ℕ) (n : ℕ) (first : Option Extreme) → AreChoices scan spot.place x values → length values ≤ n → n ≤ length values → FirstOf scan x scope spot values n first → MatchOption first (NoneMet scan (x ∷ scope) spot) (IsFound scan (x ∷ scope) spot)
all_choices scan x scope spot values n None choices l m none = λ rest met. none_met rest met
  where
    none_met : (rest : List ℕ) → IsMet scan (x ∷ scope) spot rest → ⊥
    none_met [] met = absurd met.fits
    none_met (value ∷ rest) met =
        let b = met_behind scan x scope spot value rest met in
        let c = choices.all value b.0 b.1 in
        none c.0 (omega (arith, l, c.1)) rest (subst (λ v. IsMet scan scope (behind scan x spot v) rest) (sym c.2) b.2)
all_choices scan x scope spot values n (Some found) choices l m is = record {
  rest = slice_index values is.choice ∷ is.rest;
  met = (let s = choices.stand is.choice (let w = is.within in omega (arith, w, m)) in met_of scan x scope spot (slice_index values is.choice) is.rest s.0 s.1 is.met);
  word = is.word;
  cell = is.cell;
  first = others;
}
  where
    others : (other : List ℕ) → IsMet scan (x ∷ scope) spot other → Before scan.sense found.cost (word_of scan (x ∷ scope) spot other)
    others [] met = absurd met.fits
    others (value ∷ rest) met =
        let b = met_behind scan x scope spot value rest met in
        let c = choices.all value b.0 b.1 in
        subst (λ v. Before scan.sense found.cost (word_of scan scope (behind scan x spot v) rest)) c.2 (is.first c.0 rest (omega (arith, l, c.1)) (subst (λ v. IsMet scan scope (behind scan x spot v) rest) (sym c.2) b.2))

-- one choice
pub one_choice_none : (scan : Scan) (x : ℕ) (scope : List ℕ) (spot : Spot) (values : List ℕ) → AreChoices scan spot.place x values → length values ≡ 1 → NoneMet scan scope (behind scan x spot (slice_index values 0)) → NoneMet scan (x ∷ scope) spot
one_choice_none scan x scope spot values choices one none =
    all_choices scan x scope spot values 1 None choices (omega (arith, one)) (omega (arith, one)) (λ j l. (let e : 0 ≡ j = omega (arith, l) in subst (λ i. NoneMet scan scope (behind scan x spot (slice_index values i))) e none))

pub one_choice_found : (scan : Scan) (x : ℕ) (scope : List ℕ) (spot : Spot) (values : List ℕ) (found : Extreme) → AreChoices scan spot.place x values → length values ≡ 1 → IsFound scan scope (behind scan x spot (slice_index values 0)) found → IsFound scan (x ∷ scope) spot found
one_choice_found scan x scope spot values found choices one is =
    all_choices scan x scope spot values 1 (Some found) choices (omega (arith, one)) (omega (arith, one)) (taken scan x scope spot values 0 found is (λ j other l met. absurd (omega (arith, l))))

-- a spot behind a value
pub spot_behind : (scan : Scan) (x : ℕ) (scope : List ℕ) (spot : Spot) (value : ℕ) → IsSpot scan (x ∷ scope) spot → value < slice_index scan.sizes.now x → IsSpot scan scope (behind scan x spot value)
spot_behind scan x scope spot value is small = record {
  variables = λ p l. is.variables (suc p) (omega (arith, l));
  sizes = is.sizes;
  one = λ p l e. is.one (suc p) (omega (arith, l)) (omega (arith, e));
  two = λ p l e. is.two (suc p) (omega (arith, l)) (omega (arith, e));
  inhabited = is.inhabited;
  cells = let K = cells (dims scan.sizes.now scope) in let size = slice_index scan.sizes.now x in
      let grown : (spot.cell + 1) * size ≡ spot.cell * size + size = grind arith in
      let least : spot.cell * size + value + 1 ≤ (spot.cell + 1) * size = omega (arith, small, grown) in
      let more : (spot.cell * size + value + 1) * K ≤ (spot.cell + 1) * size * K = mul-le-mul_right K least in
      let same = mul_assoc (spot.cell + 1) size K in
      let c = is.cells in omega (arith, more, same, c);
  few = is.few;
  flags = is.flags;
  offset = let o = is.offset in omega (arith, o);
  places = let p = is.places in omega (arith, p);
}

-- the number so far is one of a tuple's
pub small_cell : (scan : Scan) (scope : List ℕ) (spot : Spot) → IsSpot scan scope spot → spot.cell < length scan.table.now
small_cell scan scope spot is =
    let K = cells (dims scan.sizes.now scope) in
    let some : 0 < K = cells-drop-pos (dims scan.sizes.now scope) 0 (Inhabited-dims scan.sizes.now scope is.inhabited is.variables) in
    let least : (spot.cell + 1) * 1 ≤ (spot.cell + 1) * K = mul-le-mul_left (spot.cell + 1) some in
    let c = is.cells in omega (arith, least, c)

-- where a scan stands once it has passed places of one choice
pub record Passed (scan : Scan) (scope : List ℕ) (start : Spot) (passed : ℕ) (spot : Spot) : Type 0 where
  pub within : passed ≤ length scope
  pub spot_is : IsSpot scan (drop passed scope) spot
  pub none : NoneMet scan (drop passed scope) spot → NoneMet scan scope start
  pub found : (found : Extreme) → IsFound scan (drop passed scope) spot found → IsFound scan scope start found

pub passed_none : (scan : Scan) (scope : List ℕ) (start : Spot) → IsSpot scan scope start → Passed scan scope start 0 start
passed_none scan scope start is = record { within = omega arith; spot_is = is; none = λ n. n; found = λ found n. n }

pub passed_more : (scan : Scan) (scope : List ℕ) (start : Spot) (passed : ℕ) (spot : Spot) (values : List ℕ) → Passed scan scope start passed spot → passed < length scope → AreChoices scan spot.place (slice_index scope passed) values → length values ≡ 1 → Passed scan scope start (passed + 1) (behind scan (slice_index scope passed) spot (slice_index values 0))
passed_more scan scope start passed spot values old l choices one =
    let x = slice_index scope passed in
    let front : drop passed scope ≡ x ∷ drop (passed + 1) scope = drop_more scope passed 0 l in
    let first = choices.stand 0 (omega (arith, one)) in
    record {
      within = omega (arith, l);
      spot_is = spot_behind scan x (drop (passed + 1) scope) spot (slice_index values 0) (subst (λ s. IsSpot scan s spot) front old.spot_is) first.0;
      none = λ n. old.none (subst (λ s. NoneMet scan s spot) (sym front) (one_choice_none scan x (drop (passed + 1) scope) spot values choices one n));
      found = λ found n. old.found found (subst (λ s. IsFound scan s spot found) (sym front) (one_choice_found scan x (drop (passed + 1) scope) spot values found choices one n));
    }

-- what is found behind passed places is found before them
pub match_through : (scan : Scan) (scope later : List ℕ) (start spot : Spot) (first : Option Extreme) → (NoneMet scan later spot → NoneMet scan scope start) → ((found : Extreme) → IsFound scan later spot found → IsFound scan scope start found) → MatchOption first (NoneMet scan later spot) (IsFound scan later spot) → MatchOption first (NoneMet scan scope start) (IsFound scan scope start)
match_through scan scope later start spot None none found is = none is
match_through scan scope later start spot (Some f) none found is = found f is

-- a part of a scope is passed by one step, from each spot at its begin
abbrev pub AreBehind : Scan → List ℕ → Spot → ℕ → ℕ → Spot → Type 0
AreBehind scan scope start passed tuples end =
    (begin : Spot) → begin.offset ≡ start.offset → begin.place ≡ start.place → begin.shift < 2 ^ 64 → IsSpot scan scope begin → Passed scan scope begin passed (ended begin (record { tuples = tuples; end = end }))

pub record Tails (scan : Scan) (scope : List ℕ) (start : Spot) (passed tuples : ℕ) (end : Spot) : Type 0 where
  pub within : passed ≤ length scope
  pub spot_is : IsSpot scan (drop passed scope) end
  pub product : tuples * cells (dims scan.sizes.now (drop passed scope)) ≡ cells (dims scan.sizes.now scope)
  pub each : AreBehind scan scope start passed tuples end

same_spot : (begin : Spot) (offset place : ℕ) → begin.offset ≡ offset → begin.place ≡ place → begin.shift < 2 ^ 64 → begin ≡ ended begin (record { tuples = 1; end = record { cell = 0; shift = 0; offset = offset; place = place } })
same_spot begin offset place at_offset at_place small =
    let c : begin.cell ≡ begin.cell * 1 + 0 = omega arith in
    let s : begin.shift ≡ (begin.shift + 0) % 18446744073709551616 = omega (arith, small) in
    ap (λ n. record { cell = n; shift = begin.shift; offset = begin.offset; place = begin.place }) c
    ∙ ap (λ n. record { cell = begin.cell * 1 + 0; shift = n; offset = begin.offset; place = begin.place }) s
    ∙ ap (λ n. record { cell = begin.cell * 1 + 0; shift = (begin.shift + 0) % 18446744073709551616; offset = n; place = begin.place }) at_offset
    ∙ ap (λ n. record { cell = begin.cell * 1 + 0; shift = (begin.shift + 0) % 18446744073709551616; offset = offset; place = n }) at_place

pub tail_none : (scan : Scan) (scope : List ℕ) (offset place : ℕ) → IsSpot scan scope (record { cell = 0; shift = 0; offset = offset; place = place }) → Tails scan scope (record { cell = 0; shift = 0; offset = offset; place = place }) 0 1 (record { cell = 0; shift = 0; offset = offset; place = place })
tail_none scan scope offset place is = record {
  within = omega arith;
  spot_is = is;
  product = omega arith;
  each = λ begin at_offset at_place small here. subst (Passed scan scope begin 0) (same_spot begin offset place at_offset at_place small) (passed_none scan scope begin here);
}

spots : (o p a b m n : ℕ) → a ≡ b → m ≡ n → ◌≡◌ {A = Spot} (record { cell = a; shift = m; offset = o; place = p }) (record { cell = b; shift = n; offset = o; place = p })
spots o p a b m n e f = ap (λ k. record { cell = k; shift = m; offset = o; place = p }) e ∙ ap (λ k. record { cell = b; shift = k; offset = o; place = p }) f

-- a step behind a tail is a longer tail
ended_more : (scan : Scan) (x v tuples : ℕ) (begin end : Spot) → behind scan x (ended begin (record { tuples = tuples; end = end })) v ≡ ended begin (record { tuples = tuples * slice_index scan.sizes.now x; end = behind scan x end v })
ended_more scan x v tuples begin end = go (slice_index scan.sizes.now x) (slice_index scan.shifts.now (end.offset + v))
  where
    go : (size w : ℕ) → ◌≡◌ {A = Spot} (record { cell = (begin.cell * tuples + end.cell) * size + v; shift = ((begin.shift + end.shift) % 18446744073709551616 + w) % 18446744073709551616; offset = end.offset + size; place = end.place + 1 }) (record { cell = begin.cell * (tuples * size) + (end.cell * size + v); shift = (begin.shift + (end.shift + w) % 18446744073709551616) % 18446744073709551616; offset = end.offset + size; place = end.place + 1 })
    go size w =
        let c : (begin.cell * tuples + end.cell) * size + v ≡ begin.cell * (tuples * size) + (end.cell * size + v) = grind arith in
        let s : ((begin.shift + end.shift) % 18446744073709551616 + w) % 18446744073709551616 ≡ (begin.shift + (end.shift + w) % 18446744073709551616) % 18446744073709551616 = omega arith in
        spots (end.offset + size) (end.place + 1) _ _ _ _ c s

pub tail_more : (scan : Scan) (scope : List ℕ) (start : Spot) (passed tuples : ℕ) (end : Spot) (values : List ℕ) → Tails scan scope start passed tuples end → passed < length scope → AreChoices scan end.place (slice_index scope passed) values → length values ≡ 1 →
    Tails scan scope start (passed + 1) (tuples * slice_index scan.sizes.now (slice_index scope passed)) (behind scan (slice_index scope passed) end (slice_index values 0))
tail_more scan scope start passed tuples end values old l choices one =
    let x = slice_index scope passed in
    let size = slice_index scan.sizes.now x in
    let front : drop passed scope ≡ x ∷ drop (passed + 1) scope = drop_more scope passed 0 l in
    let first = choices.stand 0 (omega (arith, one)) in
    let rest = cells (dims scan.sizes.now (drop (passed + 1) scope)) in
    record {
      within = omega (arith, l);
      spot_is = spot_behind scan x (drop (passed + 1) scope) end (slice_index values 0) (subst (λ s. IsSpot scan s end) front old.spot_is) first.0;
      product = (let p : tuples * (size * rest) ≡ cells (dims scan.sizes.now scope) = subst (λ s. tuples * cells (dims scan.sizes.now s) ≡ cells (dims scan.sizes.now scope)) front old.product in mul_assoc tuples size rest ∙ p);
      each = λ begin at_offset at_place small here. subst (Passed scan scope begin (passed + 1)) (ended_more scan x (slice_index values 0) tuples begin end)
          (passed_more scan scope begin passed (ended begin (record { tuples = tuples; end = end })) values (old.each begin at_offset at_place small here) l choices one);
    }

-- the tuples of what is passed are no more than those of the table
pub few_tuples : (scan : Scan) (scope : List ℕ) (start : Spot) (passed tuples : ℕ) (end : Spot) → IsSpot scan scope start → Tails scan scope start passed tuples end → passed < length scope → tuples * slice_index scan.sizes.now (slice_index scope passed) ≤ 4194304
few_tuples scan scope start passed tuples end is tails l =
    let x = slice_index scope passed in
    let size = slice_index scan.sizes.now x in
    let later = drop (passed + 1) scope in
    let rest = cells (dims scan.sizes.now later) in
    let front : drop passed scope ≡ x ∷ later = drop_more scope passed 0 l in
    let whole : tuples * (size * rest) ≡ cells (dims scan.sizes.now scope) = subst (λ s. tuples * cells (dims scan.sizes.now s) ≡ cells (dims scan.sizes.now scope)) front tails.product in
    let there : IsSpot scan (x ∷ later) end = subst (λ s. IsSpot scan s end) front tails.spot_is in
    let some : 0 < rest = cells-drop-pos (dims scan.sizes.now later) 0 (Inhabited-dims scan.sizes.now later is.inhabited (λ p m. there.variables (suc p) (omega (arith, m)))) in
    let grown : tuples * size * 1 ≤ tuples * size * rest = mul-le-mul_left (tuples * size) some in
    let same = mul_assoc tuples size rest in
    let least : 1 * cells (dims scan.sizes.now scope) ≤ (start.cell + 1) * cells (dims scan.sizes.now scope) = mul-le-mul_right (cells (dims scan.sizes.now scope)) (let z : 1 ≤ start.cell + 1 = omega arith in z) in
    let c = is.cells in let f = is.few in omega (arith, grown, same, whole, least, c, f)

pub tail_whole : (scan : Scan) (scope : List ℕ) (start : Spot) (passed tuples : ℕ) (end : Spot) → length scope ≤ passed → Tails scan scope start passed tuples end → IsTail scan scope start.offset start.place (record { tuples = tuples; end = end })
tail_whole scan scope start passed tuples end l tails =
    let none : drop passed scope ≡ [] = drop_all passed scope l in
    record {
      spot = λ begin at_offset at_place small here. subst (λ s. IsSpot scan s (ended begin (record { tuples = tuples; end = end }))) none (tails.each begin at_offset at_place small here).spot_is;
      none = λ begin at_offset at_place small here n. (tails.each begin at_offset at_place small here).none (subst (λ s. NoneMet scan s (ended begin (record { tuples = tuples; end = end }))) (sym none) n);
      found = λ begin at_offset at_place small here found n. (tails.each begin at_offset at_place small here).found found (subst (λ s. IsFound scan s (ended begin (record { tuples = tuples; end = end })) found) (sym none) n);
    }

-- where a tail begins behind the first place of a scope
abbrev pub tail_begin : Scan → ℕ → Spot → Spot
tail_begin scan x spot = record { cell = 0; shift = 0; offset = spot.offset + slice_index scan.sizes.now x; place = spot.place + 1 }

pub tail_start : (scan : Scan) (scope : List ℕ) (spot : Spot) → 0 < length scope → IsSpot scan scope spot → IsSpot scan (drop 1 scope) (tail_begin scan (slice_index scope 0) spot)
tail_start scan [] spot some is = absurd (omega (arith, some))
tail_start scan (x ∷ scope) spot some is =
    let next = spot_behind scan x scope spot 0 is (is.inhabited x (is.variables 0 (omega arith))) in
    record {
      variables = next.variables;
      sizes = next.sizes;
      one = next.one;
      two = next.two;
      inhabited = next.inhabited;
      cells = (let K = cells (dims scan.sizes.now scope) in
          let least : 1 * K ≤ (spot.cell * slice_index scan.sizes.now x + 0 + 1) * K = mul-le-mul_right K (let o : 1 ≤ spot.cell * slice_index scan.sizes.now x + 0 + 1 = omega arith in o) in
          let c = next.cells in omega (arith, least, c));
      few = next.few;
      flags = next.flags;
      offset = next.offset;
      places = next.places;
    }

-- what is found at the end of a row's tail is found behind the row's value
pub row_spot : (scan : Scan) (scope : List ℕ) (spot : Spot) (tail : Tail) (value : ℕ) → 0 < length scope → IsSpot scan scope spot → IsTail scan (drop 1 scope) (spot.offset + slice_index scan.sizes.now (slice_index scope 0)) (spot.place + 1) tail → value < slice_index scan.sizes.now (slice_index scope 0) → IsSpot scan [] (ended (behind scan (slice_index scope 0) spot value) tail)
row_spot scan [] spot tail value some is tails small = absurd (omega (arith, some))
row_spot scan (x ∷ scope) spot tail value some is tails small = tails.spot (behind scan x spot value) refl refl (omega arith) (spot_behind scan x scope spot value is small)

pub row_match : (scan : Scan) (scope : List ℕ) (spot : Spot) (tail : Tail) (value : ℕ) (here : Option Extreme) → 0 < length scope → IsSpot scan scope spot → IsTail scan (drop 1 scope) (spot.offset + slice_index scan.sizes.now (slice_index scope 0)) (spot.place + 1) tail → value < slice_index scan.sizes.now (slice_index scope 0) → MatchOption here (NoneMet scan [] (ended (behind scan (slice_index scope 0) spot value) tail)) (IsFound scan [] (ended (behind scan (slice_index scope 0) spot value) tail)) →
    MatchOption here (NoneMet scan (drop 1 scope) (behind scan (slice_index scope 0) spot value)) (IsFound scan (drop 1 scope) (behind scan (slice_index scope 0) spot value))
row_match scan [] spot tail value here some is tails small found = absurd (omega (arith, some))
row_match scan (x ∷ scope) spot tail value here some is tails small found =
    let begin = behind scan x spot value in
    let there = spot_behind scan x scope spot value is small in
    match_through scan scope [] begin (ended begin tail) here (tails.none begin refl refl (omega arith) there) (tails.found begin refl refl (omega arith) there) found

-- a word is one of 64 bits
pub small_word : (scan : Scan) (scope : List ℕ) (spot : Spot) (rest : List ℕ) → word_of scan scope spot rest < 2 ^ 64
small_word scan [] spot rest = omega arith
small_word scan (x ∷ scope) spot [] = omega arith
small_word scan (x ∷ scope) spot (v ∷ rest) = small_word scan scope _ rest

-- no key is below 0
before_all : (sense : Sense) (k word : ℕ) → k ≡ 0 → word < 18446744073709551616 → Before sense (key sense k) word
before_all Least k word e small = omega (arith, e)
before_all Greatest k word e small = omega (arith, e, small)

pub at_once : (scan : Scan) (x : ℕ) (scope : List ℕ) (spot : Spot) (values : List ℕ) (n k : ℕ) (cell : Option ℕ) → AreChoices scan spot.place x values → n ≤ length values → FirstOf scan x scope spot values n (found_with scan.sense k cell) → k ≡ 0 → (cell ≡ None → k ≡ 18446744073709551615) → MatchOption (found_with scan.sense k cell) (NoneMet scan (x ∷ scope) spot) (IsFound scan (x ∷ scope) spot)
at_once scan x scope spot values n k None choices m is e none = (let f = none refl in absurd (omega (arith, e, f)))
at_once scan x scope spot values n k (Some c) choices m is e none = record {
  rest = slice_index values is.choice ∷ is.rest;
  met = (let s = choices.stand is.choice (let w = is.within in omega (arith, w, m)) in met_of scan x scope spot (slice_index values is.choice) is.rest s.0 s.1 is.met);
  word = is.word;
  cell = is.cell;
  first = λ other met. before_all scan.sense k (word_of scan (x ∷ scope) spot other) e (small_word scan (x ∷ scope) spot other);
}

-- a cost whose key is 0 stands before each word
foremost : (sense : Sense) (cost word : ℕ) → key sense cost ≡ 0 → word < 18446744073709551616 → Before sense cost word
foremost Least cost word e small = omega (arith, e)
foremost Greatest cost word e small = omega (arith, e, small)

pub at_once_found : (scan : Scan) (x : ℕ) (scope : List ℕ) (spot : Spot) (values : List ℕ) (n : ℕ) (first : Option Extreme) → AreChoices scan spot.place x values → n ≤ length values → FirstOf scan x scope spot values n first → IsSomeAnd first (λ extreme. key scan.sense extreme.cost ≡ 0) → MatchOption first (NoneMet scan (x ∷ scope) spot) (IsFound scan (x ∷ scope) spot)
at_once_found scan x scope spot values n None choices m is none = absurd none
at_once_found scan x scope spot values n (Some found) choices m is none = record {
  rest = slice_index values is.choice ∷ is.rest;
  met = (let s = choices.stand is.choice (let w = is.within in omega (arith, w, m)) in met_of scan x scope spot (slice_index values is.choice) is.rest s.0 s.1 is.met);
  word = is.word;
  cell = is.cell;
  first = λ other met. foremost scan.sense found.cost (word_of scan (x ∷ scope) spot other) none (small_word scan (x ∷ scope) spot other);
}
