-- What a store stands for.
use Rattle.std.specs.Prelude.{◌≡◌, ℕ, ◌-◌, ◌<◌, ◌≤◌, ◌^◌, List, [], ◌∷◌, ◌++◌, length, slice_index, pos, ◌+ℤ◌, ◌<ℤ◌, IsTrue}
use Rattle.cfn_model.specs.declared.limits.TheConstants.{GREATEST}
use Rattle.cfn_model.specs.declared.step.Step.{Step}
use Rattle.cfn_model.specs.declared.step.Event.{Event}
use Rattle.cfn_model.specs.Network.{Network, Fits, dims_at, variable_at}
use Rattle.cfn_model.specs.Sums.{unary, residual, is_live, is_live_tuple}
use Rattle.cfn_model.specs.Steps.{IsPlace, CanProject, CanExtend, CanLift, after}

-- A network, the events up to the newest decision, or of the path that was replayed, the newest first, the steps since,
-- and for how many more events there is room.
pub record Standing : Type 0 where
  pub network : Network
  pub base : List Event
  pub block : List Step
  pub spare : ℕ

-- All events, the newest first.
abbrev pub history : Standing → List Event
history s = after s.block s.base

-- At the root of a network's tree, with room for no event.
abbrev pub at_root : Network → Standing
at_root P = record { network = P; base = []; block = []; spare = 0 }

-- One step more; one decision more, with which a new block begins; and at the end of a path.
abbrev pub with_step : Standing → Step → Standing
with_step s step = record { network = s.network; base = s.base; block = s.block ++ step ∷ []; spare = s.spare - 1 }

abbrev pub with_side : Standing → Event → Standing
with_side s side = record { network = s.network; base = side ∷ history s; block = []; spare = s.spare - 1 }

-- An amount can be projected: each live tuple with the value has as much, and a live value's unary cost stays below 2^64.
pub record FitsProject (s : Standing) (f i a m : ℕ) : Type 0 where
  pub place : IsPlace s.network f i a
  pub some : 0 < m
  pub spelled : m ≤ GREATEST
  pub enough : CanProject s.network (history s) f i a m
  pub small : IsTrue (is_live (history s) (variable_at s.network f i) a) → (unary s.network (history s) (variable_at s.network f i) a +ℤ pos m) <ℤ pos (2 ^ 64)

-- An amount can be extended: a live value has as much, and each live tuple with it stays below 2^64.
pub record FitsExtend (s : Standing) (f i a m : ℕ) : Type 0 where
  pub place : IsPlace s.network f i a
  pub some : 0 < m
  pub spelled : m ≤ GREATEST
  pub enough : CanExtend s.network (history s) (variable_at s.network f i) a m
  pub small : (tuple : List ℕ) → Fits (dims_at s.network f) tuple → slice_index tuple i ≡ a → IsTrue (is_live_tuple s.network (history s) f tuple) → (residual s.network (history s) f tuple +ℤ pos m) <ℤ pos (2 ^ 64)

-- An amount can be lifted: each live value of x has as much.
pub record FitsLift (s : Standing) (x m : ℕ) : Type 0 where
  pub variable : x < length s.network.sizes
  pub some : 0 < m
  pub spelled : m ≤ GREATEST
  pub enough : CanLift s.network (history s) x m
