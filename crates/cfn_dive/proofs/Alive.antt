-- A leaf that is not dead.
use Rattle.std.proofs.Common.{◌≡◌, ℕ, suc, ◌<◌, ◌≤◌, inl, inr, List, [], ◌∷◌, length, arith}
use Rattle.std.proofs.lemmas.Int.{ints}
use Rattle.std.proofs.lemmas.Bool.{cases_lt, cases_eq}
use Rattle.std.specs.Prelude.{slice_index, ℤ, pos, ◌+ℤ◌, ◌<ℤ◌, IsTrue, IsFalse, true, false}
use Rattle.cfn_model.specs.declared.step.Event.{Event}
use Rattle.cfn_model.specs.Network.{Network, IsNetwork, Fits}
use Rattle.cfn_model.specs.Sums.{floor}
use Rattle.cfn_model.specs.Tree.{CanClose}
use Rattle.cfn_rows.proofs.CallerLemmas.{live_below_none, live_below_two}
use Rattle.cfn_consistency.specs.Consistency.{IsNodeConsistent}
use Rattle.cfn_store.specs.Standing.{Standing, history}
use Rattle.cfn_branch.specs.Choosing.{choices, AllDecided, IsChoice}
use Rattle.cfn_dive.specs.Enforcing.{OnlyOf}

both : {b : Rattle.std.specs.Prelude.Bool} → IsTrue b → IsFalse b → ⊥
both h k = cc

low_floor : (f k : ℕ) (u : ℤ) → (pos f +ℤ u) <ℤ pos k → u ≡ pos 0 → k ≤ f → ⊥
low_floor f k u below none reached = omega (arith, ints)

-- what is node consistent is not dead
pub consistent_alive : (P : Network) (path : List Event) (k : ℕ) → IsNetwork P → IsNodeConsistent P path k → CanClose P path k → ⊥
consistent_alive P path k network nodes (inl reached) = let f = nodes.free 0 network.some in low_floor (floor P path) k _ (nodes.below 0 f.0 f.1.value f.1.live) f.1.free reached
consistent_alive P path k network nodes (inr wiped) = let f = nodes.free wiped.0 wiped.1 in both f.1.live (wiped.2 f.0 f.1.value.value)

-- each variable of what is not dead has a live value
pub some_choice : (s : Standing) (k : ℕ) → (CanClose s.network (history s) k → ⊥) → (x : ℕ) → x < length s.network.sizes → 1 ≤ choices s x
some_choice s k alive x h = elim (cases_eq (choices s x) 0) [
  | inl none ↦ absurd (alive (inr (x, h, λ a below. live_below_none (history s) x (slice_index s.network.sizes x) a none below)))
  | inr some ↦ omega arith
]

-- where each variable has one live value, only those are live
pub only_choices : (s : Standing) (values : List ℕ) → AllDecided s → ((x : ℕ) → x < length s.network.sizes → IsChoice s x (slice_index values x)) → OnlyOf s.network (history s) values
only_choices s values decided choice = record {
  live = λ x h. (choice x h).live;
  each = λ x a value live. (let c = choice x value.variable in
      elim (cases_eq a (slice_index values x)) [
        | inl same ↦ same
        | inr other ↦ absurd (let one = decided x value.variable in elim (cases_lt a (slice_index values x)) [
          | inl lt ↦ (let two = live_below_two (history s) x (slice_index s.network.sizes x) a (slice_index values x) lt c.value.value live c.live in omega (arith, two, one))
          | inr le ↦ (let two = live_below_two (history s) x (slice_index s.network.sizes x) (slice_index values x) a (omega arith) value.value c.live live in omega (arith, two, one))
        ])
      ]);
}

-- these values fit
fits_from : (sizes values : List ℕ) → length values ≡ length sizes → ((x : ℕ) → x < length sizes → slice_index values x < slice_index sizes x) → Fits sizes values
fits_from [] [] len below = tt
fits_from [] (v ∷ values) len below = absurd (omega arith)
fits_from (d ∷ sizes) [] len below = absurd (omega arith)
fits_from (d ∷ sizes) (v ∷ values) len below = (below 0 (omega arith), fits_from sizes values (omega arith) (λ x h. below (suc x) (omega arith)))

pub choices_fit : (s : Standing) (values : List ℕ) → length values ≡ length s.network.sizes → ((x : ℕ) → x < length s.network.sizes → IsChoice s x (slice_index values x)) → Fits s.network.sizes values
choices_fit s values len choice = fits_from s.network.sizes values len (λ x h. (choice x h).value.value)
