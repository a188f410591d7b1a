-- What a step leaves: the same values and tuples are live, where it cuts none.
use Rattle.std.proofs.Common.{◌≡◌, ℕ, List, [], ◌∷◌, refl, ap, ◌∙◌}
use Rattle.std.specs.Prelude.{false, not, ◌&&◌, ◌||◌, ◌==◌, pos, neg_ℤ, ◌+ℤ◌, slice_index, nat_lt}
use Rattle.cfn_model.specs.declared.step.Step.TheVariants.{Project}
use Rattle.cfn_model.specs.declared.step.Event.{Event}
use Rattle.cfn_model.specs.declared.step.Event.TheVariants.{Did}
use Rattle.cfn_model.specs.Network.{Network, scope_at, entry_at, dims_at, cell}
use Rattle.cfn_model.specs.Sums.{when, residual, removes, cuts, is_live, all_live, is_cut, is_live_tuple}
use Rattle.cfn_model.proofs.CallerLemmas.{eqb_same}

live_kept : (event : Event) (history : List Event) (x a : ℕ) → removes event x a ≡ false → is_live (event ∷ history) x a ≡ is_live history x a
live_kept event history x a kept = ap (λ r. not r && is_live history x a) kept

all_kept : (event : Event) (history : List Event) (scope tuple : List ℕ) → ((x a : ℕ) → removes event x a ≡ false) → all_live (event ∷ history) scope tuple ≡ all_live history scope tuple
all_kept event history [] tuple kept = refl
all_kept event history (x ∷ scope) [] kept = refl
all_kept event history (x ∷ scope) (a ∷ tuple) kept =
    ap (λ b. b && all_live (event ∷ history) scope tuple) (live_kept event history x a (kept x a)) ∙ ap (λ b. is_live history x a && b) (all_kept event history scope tuple kept)

pub tuple_kept : (P : Network) (event : Event) (history : List Event) (f : ℕ) (tuple : List ℕ) → ((x a : ℕ) → removes event x a ≡ false) → cuts event f (cell (dims_at P f) tuple) ≡ false → is_live_tuple P (event ∷ history) f tuple ≡ is_live_tuple P history f tuple
tuple_kept P event history f tuple kept uncut =
    ap (λ b. b && nat_lt (entry_at P f tuple) P.upper && not (is_cut (event ∷ history) f (cell (dims_at P f) tuple))) (all_kept event history (scope_at P f) tuple kept)
    ∙ ap (λ b. all_live history (scope_at P f) tuple && nat_lt (entry_at P f tuple) P.upper && not (b || is_cut history f (cell (dims_at P f) tuple))) uncut

-- a project takes its amount from the tuples with its value
pub residual_taken : (P : Network) (history : List Event) (f i a m : ℕ) (tuple : List ℕ) → slice_index tuple i ≡ a → residual P (Did (Project f i a m) ∷ history) f tuple ≡ neg_ℤ (pos m) +ℤ residual P history f tuple
residual_taken P history f i a m tuple at =
    ap (λ t. when (t && (slice_index tuple i == a)) (neg_ℤ (pos m)) +ℤ residual P history f tuple) (eqb_same f f refl) ∙ ap (λ t. when t (neg_ℤ (pos m)) +ℤ residual P history f tuple) (eqb_same (slice_index tuple i) a at)
