-- Costs stay small behind a decision.
use Rattle.std.proofs.Common.{◌≡◌, ℕ, Bool, true, false, not, ◌&&◌, ◌||◌, List, [], ◌∷◌, refl, arith}
use Rattle.std.proofs.lemmas.Bool.{and_parts, and_from}
use Rattle.std.proofs.lemmas.Int.{ints}
use Rattle.std.specs.Prelude.{pos, IsTrue, nat_lt}
use Rattle.cfn_model.specs.declared.step.Decision.{Decision}
use Rattle.cfn_model.specs.declared.step.Event.{Event}
use Rattle.cfn_model.specs.declared.step.Event.TheVariants.{Took, Refused}
use Rattle.cfn_model.specs.Network.{Network, dims_at, entry_at, scope_at, cell}
use Rattle.cfn_model.specs.Sums.{unary_by, residual_by, removes, cuts, is_live, is_cut, all_live, is_live_tuple}
use Rattle.cfn_model.specs.Paths.{HasSmallCosts}

neither : (a b : Bool) → not (a || b) ≡ true → not b ≡ true
neither true b h = cc
neither false b h = h

-- what is live after one more event was live before it
pub fewer : (event : Event) (history : List Event) (x a : ℕ) → is_live (event ∷ history) x a ≡ true → is_live history x a ≡ true
fewer event history x a live = (and_parts (not (removes event x a)) (is_live history x a) live).1

all_fewer : (event : Event) (history : List Event) (scope tuple : List ℕ) → all_live (event ∷ history) scope tuple ≡ true → all_live history scope tuple ≡ true
all_fewer event history [] tuple live = refl
all_fewer event history (x ∷ scope) [] live = refl
all_fewer event history (x ∷ scope) (a ∷ tuple) live =
    let b = and_parts (is_live (event ∷ history) x a) (all_live (event ∷ history) scope tuple) live in
    and_from (is_live history x a) (all_live history scope tuple) (fewer event history x a b.0) (all_fewer event history scope tuple b.1)

pub tuple_fewer : (P : Network) (event : Event) (history : List Event) (f : ℕ) (tuple : List ℕ) → IsTrue (is_live_tuple P (event ∷ history) f tuple) → IsTrue (is_live_tuple P history f tuple)
tuple_fewer P event history f tuple live =
    let below = nat_lt (entry_at P f tuple) P.upper in
    let c = cell (dims_at P f) tuple in
    let b = and_parts (all_live (event ∷ history) (scope_at P f) tuple && below) (not (cuts event f c || is_cut history f c)) live in
    let d = and_parts (all_live (event ∷ history) (scope_at P f) tuple) below b.0 in
    and_from (all_live history (scope_at P f) tuple && below) (not (is_cut history f c)) (and_from (all_live history (scope_at P f) tuple) below (all_fewer event history (scope_at P f) tuple d.0) d.1) (neither (cuts event f c) (is_cut history f c) b.1)

-- an event that shifts nothing keeps costs small
still_small : (P : Network) (history : List Event) (event : Event) → ((x a : ℕ) → unary_by P event x a ≡ pos 0) → ((f : ℕ) (tuple : List ℕ) → residual_by event f tuple ≡ pos 0) → HasSmallCosts P history → HasSmallCosts P (event ∷ history)
still_small P history event no_unary no_residual small = record {
  unary = λ x a value live. (let h = small.unary x a value (fewer event history x a live) in let none = no_unary x a in omega (arith, ints, h, none));
  residual = λ f tuple there fits live. (let h = small.residual f tuple there fits (tuple_fewer P event history f tuple live) in let none = no_residual f tuple in omega (arith, ints, h, none));
}

pub small_took : (P : Network) (history : List Event) (d : Decision) → HasSmallCosts P history → HasSmallCosts P (Took d ∷ history)
small_took P history d small = still_small P history (Took d) (λ x a. refl) (λ f tuple. refl) small

pub small_refused : (P : Network) (history : List Event) (d : Decision) → HasSmallCosts P history → HasSmallCosts P (Refused d ∷ history)
small_refused P history d small = still_small P history (Refused d) (λ x a. refl) (λ f tuple. refl) small
