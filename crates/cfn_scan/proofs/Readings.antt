-- What a scan reads of a history: which tuples it meets, and that their words are their residual costs.
use Rattle.std.proofs.Common.{◌≡◌, ℕ, suc, zero, ◌+◌, ◌<◌, ◌^◌, Bool, true, false, not, ◌&&◌, ◌||◌, List, [], ◌∷◌, length, refl, sym, ap, subst, ◌∙◌, arith, eqb-true}
use Rattle.std.proofs.lemmas.Bool.{and_parts, and_from}
use Rattle.std.proofs.lemmas.Int.{ints}
use Rattle.std.specs.Prelude.{ℤ, pos, neg_ℤ, ◌+ℤ◌, ◌==◌, slice_index, slice_index_or, nat_lt}
use Rattle.cfn_model.specs.declared.step.Event.{Event}
use Rattle.cfn_model.specs.Network.{Network, Fits, cell_from, dims, dims_at, scope_at, arity}
use Rattle.cfn_model.specs.Sums.{is_live, all_live}
use Rattle.cfn_model.proofs.CallerLemmas.{eqb_same}
use Rattle.cfn_net.proofs.CallerLemmas.{length-dims}
use Rattle.cfn_scan.specs.Wrapped.{StandsFor}
use Rattle.cfn_scan.specs.Shifts.{shift, along, offset}
use Rattle.cfn_scan.specs.declared.scan.Scan.{Scan}
use Rattle.cfn_scan.specs.declared.scan.Pin.{Pin}
use Rattle.cfn_scan.specs.declared.scan.Spot.{Spot}
use Rattle.cfn_scan.specs.Scanning.{is_met, word_of, gone_on, may_stand, agrees}
use Rattle.cfn_scan.specs.Reading.{Reads}
use Rattle.cfn_scan.proofs.Wrapping.{sum_stands, difference_stands, itself}
use Rattle.cfn_scan.proofs.Offsets.{offset_next}

other : (a b : Bool) → (not a || b) ≡ true → a ≡ true → b ≡ true
other true b h e = h
other false b h e = cc

either : (a b : Bool) → (a ≡ true → b ≡ true) → (not a || b) ≡ true
either true b h = h refl
either false b h = refl

-- where nothing is asked for at a place, each value agrees
pub agrees_unasked : (pin : Pin) (place v : ℕ) → (place ≡ pin.place → ⊥) → agrees pin place v ≡ true
agrees_unasked pin place v apart = either (place == pin.place) (v == pin.value) (λ e. absurd (apart (eqb-true place pin.place e)))

-- the entry of a tuple is below the upper bound, and it is not cut
abbrev pub is_last : Scan → ℕ → Bool
is_last scan c = nat_lt (slice_index scan.table.now c) scan.upper && not (slice_index_or scan.flags.now c false)

-- the values of a scope from a place on are what is asked for
abbrev pub AgreesFrom : Pin → List ℕ → ℕ → List ℕ → Type 0
AgreesFrom pin scope place rest = (j : ℕ) → j < length scope → place + j ≡ pin.place → slice_index rest j ≡ pin.value

agrees_more : (pin : Pin) (x : ℕ) (scope : List ℕ) (place v : ℕ) (rest : List ℕ) → agrees pin place v ≡ true → AgreesFrom pin scope (place + 1) rest → AgreesFrom pin (x ∷ scope) place (v ∷ rest)
agrees_more pin x scope place v rest asked later zero l e = eqb-true v pin.value (other (place == pin.place) (v == pin.value) asked (eqb_same place pin.place (omega (arith, e))))
agrees_more pin x scope place v rest asked later (suc j) l e = later j (omega (arith, l)) (omega (arith, e))

agrees_here : (pin : Pin) (x : ℕ) (scope : List ℕ) (place v : ℕ) (rest : List ℕ) → AgreesFrom pin (x ∷ scope) place (v ∷ rest) → agrees pin place v ≡ true
agrees_here pin x scope place v rest at = either (place == pin.place) (v == pin.value) (λ e. eqb_same v pin.value (at 0 (omega arith) (let s = eqb-true place pin.place e in omega (arith, s))))

agrees_behind : (pin : Pin) (x : ℕ) (scope : List ℕ) (place v : ℕ) (rest : List ℕ) → AgreesFrom pin (x ∷ scope) place (v ∷ rest) → AgreesFrom pin scope (place + 1) rest
agrees_behind pin x scope place v rest at = λ j l e. at (suc j) (omega (arith, l)) (omega (arith, e))

-- a tuple that is met has live values, the values that are asked for at their places, and is not cut
pub met_facts : (scan : Scan) (history : List Event) → ((x a : ℕ) → is_live scan.live.now.history x a ≡ is_live history x a) → (scope rest : List ℕ) (spot : Spot) → Fits (dims scan.sizes.now scope) rest → is_met scan scope spot rest ≡ true →
    (all_live history scope rest ≡ true) × AgreesFrom scan.one scope spot.place rest × AgreesFrom scan.two scope spot.place rest × (is_last scan (cell_from spot.cell (dims scan.sizes.now scope) rest) ≡ true)
met_facts scan history live [] [] spot fits met = (refl, λ j l e. absurd (omega (arith, l)), λ j l e. absurd (omega (arith, l)), met)
met_facts scan history live [] (v ∷ rest) spot fits met = absurd fits
met_facts scan history live (x ∷ scope) [] spot fits met = absurd fits
met_facts scan history live (x ∷ scope) (v ∷ rest) spot fits met =
    let next = gone_on scan spot (slice_index scan.sizes.now x) v in
    let b = and_parts (may_stand scan spot.place x v) (is_met scan scope next rest) met in
    let d = and_parts (is_live scan.live.now.history x v) (agrees scan.one spot.place v && agrees scan.two spot.place v) b.0 in
    let e = and_parts (agrees scan.one spot.place v) (agrees scan.two spot.place v) d.1 in
    let r = met_facts scan history live scope rest next fits.1 b.1 in (
      and_from (is_live history x v) (all_live history scope rest) (sym (live x v) ∙ d.0) r.0,
      agrees_more scan.one x scope spot.place v rest e.0 r.1,
      agrees_more scan.two x scope spot.place v rest e.1 r.2,
      r.3,
    )

-- and such a tuple is met
pub facts_met : (scan : Scan) (history : List Event) → ((x a : ℕ) → is_live scan.live.now.history x a ≡ is_live history x a) → (scope rest : List ℕ) (spot : Spot) → Fits (dims scan.sizes.now scope) rest → all_live history scope rest ≡ true → AgreesFrom scan.one scope spot.place rest → AgreesFrom scan.two scope spot.place rest → is_last scan (cell_from spot.cell (dims scan.sizes.now scope) rest) ≡ true → is_met scan scope spot rest ≡ true
facts_met scan history live [] [] spot fits all one two last = last
facts_met scan history live [] (v ∷ rest) spot fits all one two last = absurd fits
facts_met scan history live (x ∷ scope) [] spot fits all one two last = absurd fits
facts_met scan history live (x ∷ scope) (v ∷ rest) spot fits all one two last =
    let next = gone_on scan spot (slice_index scan.sizes.now x) v in
    let b = and_parts (is_live history x v) (all_live history scope rest) all in
    let here = and_from (agrees scan.one spot.place v) (agrees scan.two spot.place v) (agrees_here scan.one x scope spot.place v rest one) (agrees_here scan.two x scope spot.place v rest two) in
    and_from (may_stand scan spot.place x v) (is_met scan scope next rest)
    (and_from (is_live scan.live.now.history x v) (agrees scan.one spot.place v && agrees scan.two spot.place v) (live x v ∙ b.0) here)
    (facts_met scan history live scope rest next fits.1 b.1 (agrees_behind scan.one x scope spot.place v rest one) (agrees_behind scan.two x scope spot.place v rest two) last)

-- the word of a tuple stands for its entry less what was moved away along it
pub word_stands : (P : Network) (history : List Event) (f : ℕ) (scan : Scan) → Reads P history f scan → (scope rest : List ℕ) (p : ℕ) (spot : Spot) (z : ℤ) → p + length scope ≡ arity P f → ((j : ℕ) → j < length scope → slice_index (dims_at P f) (p + j) ≡ slice_index P.sizes (slice_index scope j)) → spot.offset ≡ offset (dims_at P f) p → spot.shift < 2 ^ 64 → Fits (dims scan.sizes.now scope) rest → StandsFor spot.shift z →
    StandsFor (word_of scan scope spot rest) (pos (slice_index scan.table.now (cell_from spot.cell (dims scan.sizes.now scope) rest)) +ℤ neg_ℤ (z +ℤ along (shift history f) p rest))
word_stands P history f scan reads [] [] p spot z count sizes at small fits stands =
    let same : neg_ℤ z ≡ neg_ℤ (z +ℤ pos 0) = omega (arith, ints) in
    subst (λ y. StandsFor (word_of scan [] spot []) (pos (slice_index scan.table.now spot.cell) +ℤ y)) same (difference_stands (slice_index scan.table.now spot.cell) spot.shift (pos (slice_index scan.table.now spot.cell)) z small (itself (slice_index scan.table.now spot.cell)) stands)
word_stands P history f scan reads [] (v ∷ rest) p spot z count sizes at small fits stands = absurd fits
word_stands P history f scan reads (x ∷ scope) [] p spot z count sizes at small fits stands = absurd fits
word_stands P history f scan reads (x ∷ scope) (v ∷ rest) p spot z count sizes at small fits stands =
    let next = gone_on scan spot (slice_index scan.sizes.now x) v in
    let within : p < arity P f = omega (arith, count) in
    let size : slice_index (dims_at P f) p ≡ slice_index P.sizes x = (let plus : p ≡ p + 0 = omega arith in ap (slice_index (dims_at P f)) plus ∙ sizes 0 (omega arith)) in
    let value : v < slice_index (dims_at P f) p = (let f0 = fits.0 in let s = ap (λ l. slice_index l x) reads.sizes in omega (arith, f0, s, size)) in
    let word = reads.shifts p v (record { function = reads.function; place = within; value = value }) in
    let moved : slice_index scan.shifts.now (spot.offset + v) ≡ slice_index scan.shifts.now (offset (dims_at P f) p + v) = ap (λ n. slice_index scan.shifts.now (n + v)) at in
    let sum = sum_stands spot.shift (slice_index scan.shifts.now (spot.offset + v)) z (shift history f p v) stands (subst (λ n. StandsFor n (shift history f p v)) (sym moved) word) in
    let r = word_stands P history f scan reads scope rest (p + 1) next (z +ℤ shift history f p v) (omega (arith, count))
    (λ j l. (let e : p + 1 + j ≡ p + suc j = omega arith in ap (slice_index (dims_at P f)) e ∙ sizes (suc j) (omega (arith, l))))
    (let n = offset_next (dims_at P f) p (omega (arith, within, length-dims P.sizes (scope_at P f))) in let s = ap (λ l. slice_index l x) reads.sizes in omega (arith, at, n, s, size))
    (omega arith) fits.1 sum in
    let one : p + 1 ≡ suc p = omega arith in
    let same : ((z +ℤ shift history f p v) +ℤ along (shift history f) (p + 1) rest) ≡ (z +ℤ along (shift history f) p (v ∷ rest)) = (let e = ap (λ n. along (shift history f) n rest) one in omega (arith, ints, e)) in
    subst (λ y. StandsFor (word_of scan scope next rest) (pos (slice_index scan.table.now (cell_from next.cell (dims scan.sizes.now scope) rest)) +ℤ neg_ℤ y)) same r
