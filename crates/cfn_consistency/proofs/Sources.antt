-- A source that is needed is live behind the cuts of the others.
use Rattle.std.proofs.Common.{◌≡◌, ◌≢◌, ℕ, zero, suc, ◌<◌, List, [], ◌∷◌, length, refl, sym, ap, ◌∙◌, arith}
use Rattle.std.proofs.lemmas.List.Elements.{All-cons, All-nil}
use Rattle.std.proofs.lemmas.List.Kept.{AllPairs-cons}
use Rattle.std.specs.Prelude.{Bool, true, false, not, ◌&&◌, ◌==◌, slice_index, nat_lt}
use Rattle.std.specs.List.{All}
use Rattle.cfn_model.specs.declared.step.Event.{Event}
use Rattle.cfn_model.specs.Network.{Network, Fits, cell, arity, scope_at, variable_at, dims, dims_at, entry_at}
use Rattle.cfn_model.specs.Sums.{is_live, is_live_tuple, all_live, is_cut}
use Rattle.cfn_model.proofs.CallerLemmas.{eqb_same}
use Rattle.cfn_consistency.specs.declared.deletion.Deletion.{Deletion}
use Rattle.cfn_consistency.specs.declared.deletion.Source.{Source}
use Rattle.cfn_consistency.specs.Virtual.{IsNeeded, without_sources}
use Rattle.cfn_consistency.specs.Laws.{SourcesDiffer}

both : (a b : Bool) → (a && b) ≡ true → (a ≡ true) × (b ≡ true)
both true true e = (refl, refl)
both true false e = absurd cc
both false b e = absurd cc

-- each value of a live tuple is live
live_at : (history : List Event) (sizes scope tuple : List ℕ) (j : ℕ) → j < length scope → Fits (dims sizes scope) tuple → all_live history scope tuple ≡ true → is_live history (slice_index scope j) (slice_index tuple j) ≡ true
live_at history sizes [] tuple j h fits live = absurd (omega (arith, h))
live_at history sizes (x ∷ scope) [] j h fits live = absurd fits
live_at history sizes (x ∷ scope) (a ∷ tuple) zero h fits live = (both (is_live history x a) (all_live history scope tuple) live).0
live_at history sizes (x ∷ scope) (a ∷ tuple) (suc j) h fits live =
    live_at history sizes scope tuple j (omega (arith, h)) fits.1 (both (is_live history x a) (all_live history scope tuple) live).1

pub tuple_live_at : (P : Network) (history : List Event) (f j : ℕ) (tuple : List ℕ) → j < arity P f → Fits (dims_at P f) tuple → is_live_tuple P history f tuple ≡ true → is_live history (variable_at P f j) (slice_index tuple j) ≡ true
tuple_live_at P history f j tuple h fits live =
    let below = nat_lt (entry_at P f tuple) P.upper in
    let first = both (all_live history (scope_at P f) tuple && below) (not (is_cut history f (cell (dims_at P f) tuple))) live in
    live_at history P.sizes (scope_at P f) tuple j h fits (both (all_live history (scope_at P f) tuple) below first.0).0

pub needed_live : (P : Network) (history : List Event) (q f i a : ℕ) (earlier : List Deletion) (s : Source) → s.place < arity P f → IsNeeded P history q f i a earlier s → is_live history (variable_at P f s.place) s.value ≡ true
needed_live P history q f i a earlier s place needed =
    let t = needed.cheap in ap (is_live history (variable_at P f s.place)) (sym needed.value) ∙ tuple_live_at P history f s.place t.tuple place t.fits t.live

-- and what is cut is not
gone : (x a y b : ℕ) (l : Bool) → x ≡ y → a ≡ b → (not ((x == y) && (a == b)) && l) ≡ true → ⊥
gone x a y b l e d live = no (not ((x == y) && (a == b))) ((both (not ((x == y) && (a == b))) l live).0) (rw (eqb_same x y e) (rw (eqb_same a b d) refl))
  where
    no : (t : Bool) → t ≡ true → t ≡ false → ⊥
    no true e d = absurd cc
    no false e d = absurd cc

is_none : (P : Network) (f : ℕ) (sources : List Source) (history : List Event) (s : Source) → is_live (without_sources P f sources history) (variable_at P f s.place) s.value ≡ true → All (λ (other : Source). s ≢ other) sources
is_none P f [] history s live = All-nil (λ (other : Source). s ≢ other)
is_none P f (other ∷ sources) history s live =
    let now = without_sources P f sources history in let x = variable_at P f s.place in let y = variable_at P f other.place in
    All-cons (λ (t : Source). s ≢ t) other sources
    (λ same. gone y other.value x s.value (is_live now x s.value) (ap (λ (t : Source). variable_at P f t.place) (sym same)) (ap (λ (t : Source). t.value) (sym same)) live)
    (is_none P f sources history s (both (not ((y == x) && (other.value == s.value))) (is_live now x s.value) live).1)

pub sources_differ : SourcesDiffer
sources_differ P history q f i a earlier [] are = λ i j d less below. absurd (omega (arith, below))
sources_differ P history q f i a earlier (s ∷ sources) are =
    let place = are.0 in
    AllPairs-cons (λ (t : Source) (other : Source). t ≢ other) s sources
    (is_none P f sources history s (needed_live P (without_sources P f sources history) q f i a earlier s place.place are.3))
    (sources_differ P history q f i a earlier sources are.4)
