-- Where costs are moved supports stay whose costs do not rise, since no cost of what is live is negative.
use Rattle.std.proofs.Common.{◌≡◌, ℕ, zero, suc, ◌<◌, List, [], ◌∷◌, length, arith}
use Rattle.std.proofs.lemmas.Bool.{and_parts}
use Rattle.std.proofs.lemmas.Int.{ints}
use Rattle.std.specs.Prelude.{ℤ, pos, ◌+ℤ◌, neg_ℤ, ◌≤ℤ◌, Bool, true, false, not, ◌&&◌, nat_lt, slice_index, IsTrue}
use Rattle.cfn_model.specs.declared.step.Event.{Event}
use Rattle.cfn_model.specs.Network.{Network, IsNetwork, Fits, arity, scope_at, variable_at, dims, dims_at, entry_at, cell}
use Rattle.cfn_model.specs.Sums.{when, unary, unary_by, residual, residual_by, is_live, is_cut, all_live, is_live_tuple}
use Rattle.cfn_model.specs.Steps.{IsValue}
use Rattle.cfn_scan.specs.Exact.{HasNoDebts}
use Rattle.cfn_consistency.specs.Consistency.{IsFree, HasSupport, HasFullSupport}

-- an amount is at least 0, and its opposite at most 0
pub takes : (test : Bool) (m : ℕ) → when test (neg_ℤ (pos m)) ≤ℤ pos 0
takes true m = omega (arith, ints)
takes false m = omega (arith, ints)

-- costs that do not rise
abbrev pub CostsFall : Event → ℕ → Type 0
CostsFall event f = (tuple : List ℕ) → residual_by event f tuple ≤ℤ pos 0

abbrev pub UnariesFall : Network → Event → ℕ → Type 0
UnariesFall P event x = (a : ℕ) → unary_by P event x a ≤ℤ pos 0

-- what is 0, does not rise and is not negative is 0
still_none : (by old : ℤ) → by ≤ℤ pos 0 → old ≡ pos 0 → pos 0 ≤ℤ (by +ℤ old) → (by +ℤ old) ≡ pos 0
still_none by old falls none low = omega (arith, ints, falls, none, low)

sum_still_none : (by old more other : ℤ) → by ≤ℤ pos 0 → more ≤ℤ pos 0 → (old +ℤ other) ≡ pos 0 → pos 0 ≤ℤ (by +ℤ old) → pos 0 ≤ℤ (more +ℤ other) → ((by +ℤ old) +ℤ (more +ℤ other)) ≡ pos 0
sum_still_none by old more other falls fall none low least = omega (arith, ints, falls, fall, none, low, least)

-- each value of a live tuple is one of its variable's, and live
live_at : (history : List Event) (sizes scope tuple : List ℕ) (j : ℕ) → j < length scope → Fits (dims sizes scope) tuple → all_live history scope tuple ≡ true
    → (slice_index tuple j < slice_index sizes (slice_index scope j)) × (is_live history (slice_index scope j) (slice_index tuple j) ≡ true)
live_at history sizes [] tuple j h fits live = absurd (omega (arith, h))
live_at history sizes (x ∷ scope) [] j h fits live = absurd fits
live_at history sizes (x ∷ scope) (a ∷ tuple) zero h fits live = (fits.0, (and_parts (is_live history x a) (all_live history scope tuple) live).0)
live_at history sizes (x ∷ scope) (a ∷ tuple) (suc j) h fits live =
    live_at history sizes scope tuple j (omega (arith, h)) fits.1 (and_parts (is_live history x a) (all_live history scope tuple) live).1

tuple_at : (P : Network) (history : List Event) (f j : ℕ) (tuple : List ℕ) → j < arity P f → Fits (dims_at P f) tuple → IsTrue (is_live_tuple P history f tuple)
    → (slice_index tuple j < slice_index P.sizes (variable_at P f j)) × IsTrue (is_live history (variable_at P f j) (slice_index tuple j))
tuple_at P history f j tuple h fits live =
    let below = nat_lt (entry_at P f tuple) P.upper in
    let first = and_parts (all_live history (scope_at P f) tuple && below) (not (is_cut history f (cell (dims_at P f) tuple))) live in
    let second = and_parts (all_live history (scope_at P f) tuple) below first.0 in
    live_at history P.sizes (scope_at P f) tuple j h fits second.0

-- a support, a full support and a free value stay
pub support_kept : (P : Network) (history : List Event) (event : Event) (f i a : ℕ) → f < length P.functions → HasNoDebts P (event ∷ history) → CostsFall event f → (has : HasSupport P history f i a) → IsTrue (is_live_tuple P (event ∷ history) f has.tuple) → HasSupport P (event ∷ history) f i a
support_kept P history event f i a there debts falls has live = record {
  tuple = has.tuple;
  fits = has.fits;
  at = has.at;
  live = live;
  free = still_none (residual_by event f has.tuple) (residual P history f has.tuple) (falls has.tuple) has.free (debts.residual f has.tuple there has.fits live);
}

pub support_stays : (P : Network) (history : List Event) (event : Event) (f i a : ℕ) → f < length P.functions → HasNoDebts P (event ∷ history) → CostsFall event f → ((tuple : List ℕ) → IsTrue (is_live_tuple P history f tuple) → IsTrue (is_live_tuple P (event ∷ history) f tuple)) → HasSupport P history f i a → HasSupport P (event ∷ history) f i a
support_stays P history event f i a there debts falls stays has = support_kept P history event f i a there debts falls has (stays has.tuple has.live)

pub full_kept : (P : Network) (history : List Event) (event : Event) (f i j a : ℕ) → IsNetwork P → f < length P.functions → j < arity P f → HasNoDebts P (event ∷ history) → CostsFall event f → UnariesFall P event (variable_at P f j) → (has : HasFullSupport P history f i j a) → IsTrue (is_live_tuple P (event ∷ history) f has.tuple) → HasFullSupport P (event ∷ history) f i j a
full_kept P history event f i j a net there place debts falls fall has live =
    let x = variable_at P f j in
    let b = slice_index has.tuple j in
    let value = tuple_at P (event ∷ history) f j has.tuple place has.fits live in
    let is : IsValue P x b = record { variable = (net.functions f there).variables j place; value = value.0 } in
    record {
      tuple = has.tuple;
      fits = has.fits;
      at = has.at;
      live = live;
      free = sum_still_none (residual_by event f has.tuple) (residual P history f has.tuple) (unary_by P event x b) (unary P history x b) (falls has.tuple) (fall b) has.free
          (debts.residual f has.tuple there has.fits live) (debts.unary x b is value.1);
    }

pub full_stays : (P : Network) (history : List Event) (event : Event) (f i j a : ℕ) → IsNetwork P → f < length P.functions → j < arity P f → HasNoDebts P (event ∷ history) → CostsFall event f → UnariesFall P event (variable_at P f j) → ((tuple : List ℕ) → IsTrue (is_live_tuple P history f tuple) → IsTrue (is_live_tuple P (event ∷ history) f tuple)) → HasFullSupport P history f i j a → HasFullSupport P (event ∷ history) f i j a
full_stays P history event f i j a net there place debts falls fall stays has = full_kept P history event f i j a net there place debts falls fall has (stays has.tuple has.live)

pub free_stays : (P : Network) (history : List Event) (event : Event) (x a : ℕ) → HasNoDebts P (event ∷ history) → UnariesFall P event x → (IsTrue (is_live history x a) → IsTrue (is_live (event ∷ history) x a)) → IsFree P history x a → IsFree P (event ∷ history) x a
free_stays P history event x a debts falls stays free = record {
  value = free.value;
  live = stays free.live;
  free = still_none (unary_by P event x a) (unary P history x a) (falls a) free.free (debts.unary x a free.value (stays free.live));
}
