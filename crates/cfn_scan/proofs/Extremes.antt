-- A scan from the start of a scope finds the extreme residual cost.
use Rattle.std.proofs.Common.{◌≡◌, ℕ, suc, ◌+◌, ◌/◌, ◌%◌, ◌<◌, ◌^◌, Bool, true, false, not, ◌&&◌, List, [], ◌∷◌, length, drop, refl, sym, ap, subst, ◌∙◌, arith}
use Rattle.std.proofs.lemmas.Bool.{and_parts, and_from}
use Rattle.std.proofs.lemmas.Int.{ints}
use Rattle.std.specs.Prelude.{ℤ, pos, neg_ℤ, ◌+ℤ◌, IsTrue, slice_index, slice_index_or, nat_lt, Option, Some, None, MatchOption, is_some}
use Rattle.cfn_model.specs.declared.step.Event.{Event}
use Rattle.cfn_model.specs.Network.{Network, Fits, cell, cells, cell_from, dims, dims_at, scope_at, arity, function_at, entry_at}
use Rattle.cfn_model.specs.Sums.{when, residual, is_cut, all_live, is_live_tuple}
use Rattle.cfn_net.proofs.CallerLemmas.{cell-below, digit_at, Fits-length, get_or-dims, length-dims}
use Rattle.cfn_scan.specs.Wrapped.{StandsFor}
use Rattle.cfn_scan.specs.Shifts.{shift, along}
use Rattle.cfn_scan.specs.Exact.{IsExact}
use Rattle.cfn_scan.specs.Extremes.{NonePicked, IsExtreme, IsPickedBetween, NoneBetween, IsExtremeBetween, IsLeastBetween, Bounds, IsNumbered, IsTold}
use Rattle.cfn_scan.specs.declared.scan.Scan.{Scan}
use Rattle.cfn_scan.specs.declared.scan.Pin.{Pin}
use Rattle.cfn_scan.specs.declared.scan.Extreme.{Extreme}
use Rattle.cfn_scan.specs.declared.scan.Sense.{Sense}
use Rattle.cfn_scan.specs.declared.scan.Sense.TheVariants.{Least, Greatest}
use Rattle.cfn_scan.specs.Scanning.{IsMet, IsFound, NoneMet, Before, HasDigits, IsAt, word_of}
use Rattle.cfn_scan.proofs.Exact.{all_in_range}
use Rattle.cfn_scan.proofs.Amounts.{picked_one, picked_twice}
use Rattle.cfn_scan.proofs.Readings.{AgreesFrom, met_facts, facts_met, word_stands, is_last}
use Rattle.cfn_scan.specs.Reading.{Reads, start}
use Rattle.cfn_scan.proofs.Shifting.{residual_is}
use Rattle.cfn_scan.proofs.Wrapping.{exact, itself}

last_is : (P : Network) (history : List Event) (f : ℕ) (scan : Scan) (tuple : List ℕ) → Reads P history f scan → Fits (dims_at P f) tuple → is_last scan (cell_from 0 (dims scan.sizes.now (scope_at P f)) tuple) ≡ (nat_lt (entry_at P f tuple) P.upper && not (is_cut history f (cell (dims_at P f) tuple)))
last_is P history f scan tuple reads fits =
    let same : cell_from 0 (dims scan.sizes.now (scope_at P f)) tuple ≡ cell (dims_at P f) tuple = ap (λ sizes. cell_from 0 (dims sizes (scope_at P f)) tuple) reads.sizes in
    let c = cell (dims_at P f) tuple in
    ap (is_last scan) same
    ∙ ap (λ t. nat_lt (slice_index t c) scan.upper && not (slice_index_or scan.flags.now c false)) reads.table
    ∙ ap (λ u. nat_lt (slice_index (function_at P f).entries c) u && not (slice_index_or scan.flags.now c false)) reads.upper
    ∙ ap (λ b. nat_lt (entry_at P f tuple) P.upper && not b) (reads.flags c (cell-below (dims_at P f) tuple fits))

-- what is met is live, and what is live and agrees with what is asked for is met
live_of_met : (P : Network) (history : List Event) (f : ℕ) (scan : Scan) (tuple : List ℕ) → Reads P history f scan → IsMet scan (scope_at P f) start tuple → IsTrue (is_live_tuple P history f tuple)
live_of_met P history f scan tuple reads met =
    let fits : Fits (dims_at P f) tuple = subst (λ sizes. Fits (dims sizes (scope_at P f)) tuple) reads.sizes met.fits in
    let facts = met_facts scan history reads.live (scope_at P f) tuple start met.fits met.met in
    let last = and_parts (nat_lt (entry_at P f tuple) P.upper) (not (is_cut history f (cell (dims_at P f) tuple))) (sym (last_is P history f scan tuple reads fits) ∙ facts.3) in
    and_from (all_live history (scope_at P f) tuple && nat_lt (entry_at P f tuple) P.upper) (not (is_cut history f (cell (dims_at P f) tuple))) (and_from (all_live history (scope_at P f) tuple) (nat_lt (entry_at P f tuple) P.upper) facts.0 last.0) last.1

met_of_live : (P : Network) (history : List Event) (f : ℕ) (scan : Scan) (tuple : List ℕ) → Reads P history f scan → Fits (dims_at P f) tuple → AgreesFrom scan.one (scope_at P f) 0 tuple → AgreesFrom scan.two (scope_at P f) 0 tuple → IsTrue (is_live_tuple P history f tuple) → IsMet scan (scope_at P f) start tuple
met_of_live P history f scan tuple reads is_fit one two live =
    let fits = subst (λ sizes. Fits (dims sizes (scope_at P f)) tuple) (sym reads.sizes) is_fit in
    let b = and_parts (all_live history (scope_at P f) tuple && nat_lt (entry_at P f tuple) P.upper) (not (is_cut history f (cell (dims_at P f) tuple))) live in
    let d = and_parts (all_live history (scope_at P f) tuple) (nat_lt (entry_at P f tuple) P.upper) b.0 in
    record {
      fits = fits;
      met = facts_met scan history reads.live (scope_at P f) tuple start fits d.0 one two
          (last_is P history f scan tuple reads is_fit ∙ and_from (nat_lt (entry_at P f tuple) P.upper) (not (is_cut history f (cell (dims_at P f) tuple))) d.1 b.1);
    }

-- what is met is picked, and what is picked is met
pub picked : (P : Network) (history : List Event) (f : ℕ) (one two : Pin) (scan : Scan) (tuple : List ℕ) → Reads P history f scan → scan.one ≡ one → scan.two ≡ two → one.place < arity P f → two.place < arity P f → IsMet scan (scope_at P f) start tuple → IsPickedBetween P history f one.place one.value two.place two.value tuple
picked P history f one two scan tuple reads first second l m met =
    let facts = met_facts scan history reads.live (scope_at P f) tuple start met.fits met.met in
    record {
      fits = subst (λ sizes. Fits (dims sizes (scope_at P f)) tuple) reads.sizes met.fits;
      one = subst (λ pin. AgreesFrom pin (scope_at P f) 0 tuple) first facts.1 one.place l (omega arith);
      other = subst (λ pin. AgreesFrom pin (scope_at P f) 0 tuple) second facts.2 two.place m (omega arith);
      live = live_of_met P history f scan tuple reads met;
    }

agrees_all : (pin : Pin) (scope tuple : List ℕ) → slice_index tuple pin.place ≡ pin.value → AgreesFrom pin scope 0 tuple
agrees_all pin scope tuple is j l e = (let there : j ≡ pin.place = omega (arith, e) in ap (slice_index tuple) there ∙ is)

pub met : (P : Network) (history : List Event) (f : ℕ) (one two : Pin) (scan : Scan) (tuple : List ℕ) → Reads P history f scan → scan.one ≡ one → scan.two ≡ two → IsPickedBetween P history f one.place one.value two.place two.value tuple → IsMet scan (scope_at P f) start tuple
met P history f one two scan tuple reads first second is =
    met_of_live P history f scan tuple reads is.fits
    (subst (λ pin. AgreesFrom pin (scope_at P f) 0 tuple) (sym first) (agrees_all one (scope_at P f) tuple is.one))
    (subst (λ pin. AgreesFrom pin (scope_at P f) 0 tuple) (sym second) (agrees_all two (scope_at P f) tuple is.other))
    is.live

some_places : (n : ℕ) (z : ℤ) → 0 < n → when (nat_lt 0 n) z ≡ z
some_places n z l = (let yes : nat_lt 0 n ≡ true = grind (arith, l) in ap (λ t. when t z) yes)

-- the word of a live tuple is its residual cost
pub word_is : (P : Network) (history : List Event) (f i a j b : ℕ) (scan : Scan) (tuple : List ℕ) → Reads P history f scan → IsExact P history → i < arity P f → word_of scan (scope_at P f) start tuple < 2 ^ 64 → IsPickedBetween P history f i a j b tuple → residual P history f tuple ≡ pos (word_of scan (scope_at P f) start tuple)
word_is P history f i a j b scan tuple reads ex l small is =
    let stands = word_stands P history f scan reads (scope_at P f) tuple 0 start (pos 0) (omega arith)
    (λ j m. (let e : 0 + j ≡ j = omega arith in ap (slice_index (dims_at P f)) e ∙ get_or-dims P.sizes (scope_at P f) j m)) refl (omega arith)
    (subst (λ sizes. Fits (dims sizes (scope_at P f)) tuple) (sym reads.sizes) is.fits) (itself 0) in
    let entry : slice_index scan.table.now (cell_from 0 (dims scan.sizes.now (scope_at P f)) tuple) ≡ entry_at P f tuple =
    ap (λ sizes. slice_index scan.table.now (cell_from 0 (dims sizes (scope_at P f)) tuple)) reads.sizes ∙ ap (λ t. slice_index t (cell (dims_at P f) tuple)) reads.table in
    let sum = residual_is P history f tuple (all_in_range P history ex.range) is.fits in
    let first = some_places (arity P f) (pos (entry_at P f tuple)) (omega (arith, l)) in
    let same : (pos (slice_index scan.table.now (cell_from 0 (dims scan.sizes.now (scope_at P f)) tuple)) +ℤ neg_ℤ (pos 0 +ℤ along (shift history f) 0 tuple)) ≡ residual P history f tuple = omega (arith, ints, entry, sum, first) in
    exact (word_of scan (scope_at P f) start tuple) (residual P history f tuple) (subst (StandsFor (word_of scan (scope_at P f) start tuple)) same stands) small
    (ex.no_debts.residual f tuple reads.function is.fits is.live) (ex.small.residual f tuple reads.function is.fits is.live)

-- what a scan that asks for nothing tells of the tuple with a number
digits_of : (P : Network) (f number : ℕ) (scan : Scan) (tuple : List ℕ) → scan.sizes.now ≡ P.sizes → IsNumbered P f number tuple → HasDigits (dims scan.sizes.now (scope_at P f)) number tuple
digits_of P f number scan tuple same is = subst (λ sizes. HasDigits (dims sizes (scope_at P f)) number tuple) (sym same)
    (λ p l. ap (λ n. (n / cells (drop (suc p) (dims_at P f))) % slice_index (dims_at P f) p) (sym is.number_is) ∙ digit_at (dims_at P f) tuple p is.fits l)

asked_nowhere : (pin : Pin) (scope tuple : List ℕ) → pin.place ≡ length scope → AgreesFrom pin scope 0 tuple
asked_nowhere pin scope tuple far j l e = absurd (omega (arith, far, l, e))

pub told : (P : Network) (history : List Event) (f number : ℕ) (scan : Scan) (result : Option Extreme) → Reads P history f scan → IsExact P history → scan.one.place ≡ length (scope_at P f) → scan.two.place ≡ length (scope_at P f) → ((rest : List ℕ) → word_of scan (scope_at P f) start rest < 2 ^ 64) →
    ((rest : List ℕ) → Fits (dims scan.sizes.now (scope_at P f)) rest → HasDigits (dims scan.sizes.now (scope_at P f)) number rest → IsAt scan (scope_at P f) start rest result) → (tuple : List ℕ) → IsNumbered P f number tuple → IsTold P history f tuple result
told P history f number scan None reads ex one two small tells tuple is = λ live.
    tells tuple (subst (λ sizes. Fits (dims sizes (scope_at P f)) tuple) (sym reads.sizes) is.fits) (digits_of P f number scan tuple reads.sizes is)
    (met_of_live P history f scan tuple reads is.fits (asked_nowhere scan.one (scope_at P f) tuple one) (asked_nowhere scan.two (scope_at P f) tuple two) live)
told P history f number scan (Some found) reads ex one two small tells tuple is =
    let here = tells tuple (subst (λ sizes. Fits (dims sizes (scope_at P f)) tuple) (sym reads.sizes) is.fits) (digits_of P f number scan tuple reads.sizes is) in
    let live = live_of_met P history f scan tuple reads here.0 in
    let a = slice_index tuple 0 in
    (live, λ l. word_is P history f 0 a 0 a scan tuple reads ex l (small tuple) (record { fits = is.fits; one = refl; other = refl; live = live }) ∙ ap pos here.1)

-- what a store says of that tuple by what it was told
pub live_cost : (P : Network) (history : List Event) (f : ℕ) (tuple : List ℕ) (result : Option Extreme) (found : Extreme) → IsTold P history f tuple result → result ≡ Some found → 0 < arity P f → residual P history f tuple ≡ pos found.cost
live_cost P history f tuple result found is e some = (subst (IsTold P history f tuple) e is).1 some

not_true : (b : Bool) → (b ≡ true → ⊥) → false ≡ b
not_true true h = absurd (h refl)
not_true false h = refl

pub whether : (P : Network) (history : List Event) (f : ℕ) (tuple : List ℕ) (result : Option Extreme) → IsTold P history f tuple result → is_some result ≡ is_live_tuple P history f tuple
whether P history f tuple None dead = not_true (is_live_tuple P history f tuple) dead
whether P history f tuple (Some found) is = sym is.0

pub none_there : (P : Network) (history : List Event) (f : ℕ) (tuple : List ℕ) (result : Option Extreme) → IsTold P history f tuple result → result ≡ None → IsTrue (is_live_tuple P history f tuple) → ⊥
none_there P history f tuple result is e = subst (IsTold P history f tuple) e is

pub one_there : (P : Network) (history : List Event) (f : ℕ) (tuple : List ℕ) (result : Option Extreme) (found : Extreme) → IsTold P history f tuple result → result ≡ Some found → is_live_tuple P history f tuple ≡ false → ⊥
one_there P history f tuple result found is e dead = differ (sym (subst (IsTold P history f tuple) e is).0 ∙ dead)
  where
    differ : true ≡ false → ⊥
    differ d = cc

-- a function without variables has moved nothing
pub nothing_moved : (P : Network) (history : List Event) (f number : ℕ) (tuple : List ℕ) → IsExact P history → arity P f ≡ 0 → IsNumbered P f number tuple → residual P history f tuple ≡ pos 0
nothing_moved P history f number tuple ex none is =
    let sum = residual_is P history f tuple (all_in_range P history ex.range) is.fits in
    let first = no_places (arity P f) (pos (entry_at P f tuple)) none in
    let empty = along_none (shift history f) tuple (Fits-length (dims_at P f) tuple is.fits ∙ length-dims P.sizes (scope_at P f) ∙ none) in
    omega (arith, ints, sum, first, empty)
  where
    no_places : (n : ℕ) (z : ℤ) → n ≡ 0 → when (nat_lt 0 n) z ≡ pos 0
    no_places n z e = ap (λ k. when (nat_lt 0 k) z) e

    along_none : (moved : ℕ → ℕ → ℤ) (values : List ℕ) → length values ≡ 0 → along moved 0 values ≡ pos 0
    along_none moved [] e = refl
    along_none moved (v ∷ values) e = absurd (omega (arith, e))

bounded : (sense : Sense) (word other : ℕ) (cost : ℤ) → cost ≡ pos other → Before sense word other → Bounds sense word cost
bounded Least word other cost e b = omega (arith, ints, e, b)
bounded Greatest word other cost e b = omega (arith, ints, e, b)

pub extreme : (P : Network) (history : List Event) (f : ℕ) (one two : Pin) (scan : Scan) (first : Option Extreme) → Reads P history f scan → scan.one ≡ one → scan.two ≡ two → IsExact P history → one.place < arity P f → two.place < arity P f → ((rest : List ℕ) → word_of scan (scope_at P f) start rest < 2 ^ 64) → MatchOption first (NoneMet scan (scope_at P f) start) (IsFound scan (scope_at P f) start) → MatchOption first (NoneBetween P history f one.place one.value two.place two.value) (IsExtremeBetween P history f one.place one.value two.place two.value scan.sense)
extreme P history f one two scan None reads is_one is_two ex l m small none = λ tuple is. none tuple (met P history f one two scan tuple reads is_one is_two is)
extreme P history f one two scan (Some found) reads is_one is_two ex l m small is =
    let this = picked P history f one two scan is.rest reads is_one is_two l m is.met in
    record {
      tuple = is.rest;
      picked = this;
      cell_is = sym (ap (λ sizes. cell_from 0 (dims sizes (scope_at P f)) is.rest) reads.sizes) ∙ is.cell;
      cost_is = word_is P history f one.place one.value two.place two.value scan is.rest reads ex l (small is.rest) this ∙ ap pos is.word;
      bounds = λ other o. bounded scan.sense found.cost (word_of scan (scope_at P f) start other) (residual P history f other) (word_is P history f one.place one.value two.place two.value scan other reads ex l (small other) o) (is.first other (met P history f one two scan other reads is_one is_two o));
    }

-- what has the same value at one place twice has it once
pub once : (P : Network) (history : List Event) (f i a : ℕ) (sense : Sense) (first : Option Extreme) → MatchOption first (NoneBetween P history f i a i a) (IsExtremeBetween P history f i a i a sense) → MatchOption first (NonePicked P history f i a) (IsExtreme P history f i a sense)
once P history f i a sense None none = λ tuple is. none tuple (picked_twice P history f i a tuple is)
once P history f i a sense (Some found) is = record {
  tuple = is.tuple;
  picked = picked_one P history f i a i a is.tuple is.picked;
  cell_is = is.cell_is;
  cost_is = is.cost_is;
  bounds = λ other o. is.bounds other (picked_twice P history f i a other o);
}

pub least : (P : Network) (history : List Event) (f i a j b : ℕ) (first : Option Extreme) → MatchOption first (NoneBetween P history f i a j b) (IsExtremeBetween P history f i a j b Least) → MatchOption first (NoneBetween P history f i a j b) (IsLeastBetween P history f i a j b)
least P history f i a j b None none = none
least P history f i a j b (Some found) is = record {
  tuple = is.tuple;
  picked = is.picked;
  cell_is = is.cell_is;
  cost_is = is.cost_is;
  least = is.bounds;
}
