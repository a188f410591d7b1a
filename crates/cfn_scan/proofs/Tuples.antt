-- The values of a live tuple.
use Rattle.std.proofs.Common.{◌≡◌, ℕ, zero, suc, ◌<◌, List, [], ◌∷◌, length, true, ◌&&◌, not, arith}
use Rattle.std.proofs.lemmas.Bool.{and_parts}
use Rattle.std.specs.Prelude.{slice_index, nat_lt, IsTrue}
use Rattle.cfn_model.specs.declared.step.Event.{Event}
use Rattle.cfn_model.specs.Network.{Network, Fits, arity, scope_at, variable_at, dims, dims_at, entry_at, cell}
use Rattle.cfn_model.specs.Sums.{is_live, is_live_tuple, all_live, is_cut}

-- each value of a live tuple is one of its variable's, and live
live_at : (history : List Event) (sizes scope tuple : List ℕ) (j : ℕ) → j < length scope → Fits (dims sizes scope) tuple → all_live history scope tuple ≡ true
    → (slice_index tuple j < slice_index sizes (slice_index scope j)) × (is_live history (slice_index scope j) (slice_index tuple j) ≡ true)
live_at history sizes [] tuple j h fits live = absurd (omega (arith, h))
live_at history sizes (x ∷ scope) [] j h fits live = absurd fits
live_at history sizes (x ∷ scope) (a ∷ tuple) zero h fits live = (fits.0, (and_parts (is_live history x a) (all_live history scope tuple) live).0)
live_at history sizes (x ∷ scope) (a ∷ tuple) (suc j) h fits live =
    live_at history sizes scope tuple j (omega (arith, h)) fits.1 (and_parts (is_live history x a) (all_live history scope tuple) live).1

pub tuple_at : (P : Network) (history : List Event) (f j : ℕ) (tuple : List ℕ) → j < arity P f → Fits (dims_at P f) tuple → IsTrue (is_live_tuple P history f tuple)
    → (slice_index tuple j < slice_index P.sizes (variable_at P f j)) × IsTrue (is_live history (variable_at P f j) (slice_index tuple j))
tuple_at P history f j tuple h fits live =
    let below = nat_lt (entry_at P f tuple) P.upper in
    let first = and_parts (all_live history (scope_at P f) tuple && below) (not (is_cut history f (cell (dims_at P f) tuple))) live in
    let second = and_parts (all_live history (scope_at P f) tuple) below first.0 in
    live_at history P.sizes (scope_at P f) tuple j h fits second.0
