-- How far amounts have been moved, and what a group of steps has by then.
use Rattle.std.specs.Prelude.{◌≡◌, ℕ, ◌+◌, ◌<◌, ◌≤◌, ◌⊎◌, Bool, true, List, [], ◌∷◌, slice_index}
use Rattle.cfn_model.specs.declared.step.Step.{Step}
use Rattle.cfn_model.specs.declared.step.Step.TheVariants.{Project, Extend, Lift, CutValue, CutTuple}
use Rattle.cfn_model.specs.declared.step.Event.{Event}
use Rattle.cfn_model.specs.Network.{Network}
use Rattle.cfn_model.specs.Sums.{floor}
use Rattle.cfn_model.specs.Steps.{IsPlace}
use Rattle.cfn_consistency.specs.Consistency.{HasFullSupport}
use Rattle.cfn_consistency.specs.Groups.{Group}
use Rattle.cfn_store.specs.Standing.{Standing, history}
use Rattle.cfn_gain.specs.Calls.{Grows}
use Rattle.cfn_gain.specs.Gains.{Leads}
use Rattle.cfn_dac.specs.declared.pair.Pair.{Pair}
use Rattle.cfn_dac.specs.Shifts.{Shifts, AreStill, AreReached, SomeLacks, GoesThrough, IsIn, IsDirected, Closed}

-- A step extends a second value below b, or projects to a first one below n.
abbrev pub IsBefore : Pair → ℕ → ℕ → Step → Type 0
IsBefore pair b n (Project f i a m) = (f ≡ pair.function) × (i ≡ pair.place) × (a < n)
IsBefore pair b n (Extend f i a m) = (f ≡ pair.function) × (i ≡ pair.other) × (a < b)
IsBefore pair b n (Lift x m) = ⊥
IsBefore pair b n (CutValue x a) = ⊥
IsBefore pair b n (CutTuple f c) = ⊥

-- Each of these steps does, or goes through other functions.
abbrev pub AreBefore : List ℕ → Pair → ℕ → ℕ → List Step → Type 0
AreBefore functions pair b n [] = Unit {0}
AreBefore functions pair b n (step ∷ steps) = (IsBefore pair b n step ⊎ GoesThrough functions step) × AreBefore functions pair b n steps

-- What holds of a group: such are its steps, and, where that is asked for, no value that is to get something had a full
-- support at its start.
pub record GoesOnTo (P : Network) (asked : Bool) (functions : List ℕ) (pair : Pair) (moves : List ℕ) (b n : ℕ) (history : List Event) (group : Group) : Type 0 where
  pub steps : AreBefore functions pair b n group.steps
  pub start : asked ≡ true → (a : ℕ) → IsPlace P pair.function pair.place a → 0 < slice_index moves a → HasFullSupport P group.start pair.function pair.place pair.other a → ⊥

-- Second values from b on, and below c, gave what they had to.
pub record Fills (before after : Standing) (k : ℕ) (pair : Pair) (moves : List ℕ) (b c : ℕ) : Type 0 where
  pub shifts : Shifts before.network pair k (history before) (history after)
  pub still : AreStill before.network pair (history before) (history after) 0
  pub goes : (start : Standing) (asked : Bool) (functions : List ℕ) → (IsIn pair.function functions → ⊥)
      → Leads start before (GoesOnTo before.network asked functions pair moves b 0) → Leads start after (GoesOnTo before.network asked functions pair moves c 0)

-- First values below n got their amounts.
pub record Gathers (before after : Standing) (k : ℕ) (pair : Pair) (moves : List ℕ) (n : ℕ) : Type 0 where
  pub shifts : Shifts before.network pair k (history before) (history after)
  pub still : AreStill before.network pair (history before) (history after) n
  pub reached : (alpha : ℕ) → floor before.network (history before) + alpha ≤ k → AreReached before.network (history before) pair alpha moves 0 → AreReached before.network (history after) pair alpha moves n
  pub goes : (start : Standing) (asked : Bool) (functions : List ℕ) (b : ℕ) → (IsIn pair.function functions → ⊥)
      → Leads start before (GoesOnTo before.network asked functions pair moves b 0) → Leads start after (GoesOnTo before.network asked functions pair moves b n)
  pub closed : (alpha : ℕ) → floor before.network (history before) + alpha ≤ k → AreReached before.network (history before) pair alpha moves 0 → IsDirected before.network (history before) pair
      → (start : Standing) (b : ℕ) → Leads start before (GoesOnTo before.network true [] pair moves b 0) → Grows before after → Closed start after pair alpha

-- Some did, and another one still lacks a full support.
pub record Stalls (before after : Standing) (k : ℕ) (pair : Pair) (moves : List ℕ) : Type 0 where
  pub until : ℕ
  pub gathers : Gathers before after k pair moves until
  pub lacks : SomeLacks before.network (history after) pair
