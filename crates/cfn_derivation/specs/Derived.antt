-- What a derivation does to a store.
use Rattle.std.specs.Prelude.{◌≡◌, ℕ, zero, suc, ◌+◌, ◌<◌, List, ◌∷◌, ◌++◌, length, map, slice_index, IsTrue}
use Rattle.cfn_model.specs.declared.step.Step.{Step}
use Rattle.cfn_model.specs.declared.step.Step.TheVariants.{CutValue}
use Rattle.cfn_model.specs.declared.step.Event.{Event}
use Rattle.cfn_model.specs.declared.step.Event.TheVariants.{Did}
use Rattle.cfn_model.specs.Network.{Network}
use Rattle.cfn_model.specs.Sums.{is_live}
use Rattle.cfn_model.specs.Steps.{IsValue}
use Rattle.cfn_consistency.specs.declared.deletion.Deletion.{Deletion}
use Rattle.cfn_consistency.specs.Virtual.{Bans, without, IsDerivation, IsEmptied}
use Rattle.cfn_rows.specs.Sets.{live_below}
use Rattle.cfn_store.specs.Standing.{Standing, history}

-- How many values the first n variables have, and how many all have.
abbrev pub values_of : Network → ℕ → ℕ
values_of P zero = 0
values_of P (suc n) = slice_index P.sizes n + values_of P n

abbrev pub value_count : Network → ℕ
value_count P = values_of P (length P.sizes)

-- How many of them are live.
abbrev pub live_of : Network → List Event → ℕ → ℕ
live_of P history zero = 0
live_of P history (suc n) = live_below history n (slice_index P.sizes n) + live_of P history n

abbrev pub live_values : Network → List Event → ℕ
live_values P history = live_of P history (length P.sizes)

-- Each variable has a live value.
abbrev pub AllAlive : Network → List Event → Type 0
AllAlive P history = (x : ℕ) → x < length P.sizes → (a : ℕ) × IsValue P x a × IsTrue (is_live history x a)

-- The cuts of the values of a list.
abbrev pub cuts_of : List Deletion → List Step
cuts_of deletions = map (λ (d : Deletion). CutValue d.variable d.value) deletions

-- A store goes on by the cuts of a derivation, and by nothing else.
pub record IsDerived (before after : Standing) (q : ℕ) (bans : Bans) (deletions : List Deletion) : Type 0 where
  pub network : after.network ≡ before.network
  pub base : after.base ≡ before.base
  pub block : after.block ≡ before.block ++ cuts_of deletions
  pub spare : after.spare + length deletions ≡ before.spare
  pub along : history after ≡ without deletions (history before)
  pub derivation : IsDerivation before.network (history before) q bans deletions

-- The newest event cuts the last live value of x, and behind the events before it each variable has a live value.
pub record EmptiesLast (P : Network) (history : List Event) (x : ℕ) : Type 0 where
  pub emptied : IsEmptied P history x
  pub value : ℕ
  pub before : List Event
  pub newest : history ≡ Did (CutValue x value) ∷ before
  pub alive : AllAlive P before
