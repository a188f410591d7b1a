-- What a store keeps of the events along its path.
use Rattle.std.specs.Prelude.{◌≡◌, ℕ, ◌+◌, ◌≤◌, ◌^◌, List, length, reverse, vec_capacity}
use Rattle.cfn_model.specs.declared.step.Event.{Event}
use Rattle.cfn_model.specs.Network.{Network}
use Rattle.cfn_store.specs.declared.state.State.{State}
use Rattle.cfn_store.specs.Events.{removals}
use Rattle.cfn_scan.specs.Exact.{IsExactAlong, LiftsFit}
use Rattle.cfn_store.specs.Sums.{IsSums}
use Rattle.cfn_store.specs.Cutting.{IsCuts}
use Rattle.cfn_store.specs.Peaks.{ArePeaks}

-- Sums, live values and cuts are those of a history.
pub record Keeps (P : Network) (history : List Event) (s : State) : Type 0 where
  pub sums : IsSums P history s.sums
  pub cuts : IsCuts P history s.cuts
  pub sizes : s.live.sizes ≡ P.sizes
  pub live : s.live.history ≡ removals history

-- The events of a state, the newest first.
abbrev pub history_of : State → List Event
history_of s = reverse s.trail.items

-- A state keeps what its events make of the network, and costs are exact along them. The peaks that it remembers are so there.
pub record IsState (P : Network) (s : State) : Type 0 where
  pub keeps : Keeps P (history_of s) s
  pub exact : IsExactAlong P (history_of s)
  pub lifts : LiftsFit (history_of s)
  pub peaks : ArePeaks P (history_of s) s.peaks.items

-- There is room for so many events in all.
pub record HasRoom (room : ℕ) (s : State) : Type 0 where
  pub trail : room ≤ vec_capacity s.trail
  pub live : room ≤ s.live.spare + length s.live.history
  pub cuts : room ≤ vec_capacity s.cuts.fresh
  pub few : room ≤ 2 ^ 56
