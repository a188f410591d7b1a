-- What a store keeps.
use Rattle.std.specs.Prelude.{ℕ, ◌≤◌, length, drop}
use Rattle.std.specs.List.{AllByRecursion}
use Rattle.cfn_model.specs.Network.{Network}
use Rattle.cfn_model.specs.Text.{IsSpelledStep}
use Rattle.cfn_store.specs.declared.state.State.{State}
use Rattle.cfn_store.specs.Events.{AllSteps, steps_in}
use Rattle.cfn_store.specs.State.{IsState, HasRoom}

-- The state is one, there is room for so many events, and those from a place on are steps that have a spelling.
pub record IsStore (P : Network) (begin most : ℕ) (s : State) : Type 0 where
  pub state : IsState P s
  pub room : HasRoom most s
  pub within : length s.trail.items ≤ most
  pub base : begin ≤ length s.trail.items
  pub steps : AllSteps (drop begin s.trail.items)
  pub spelled : AllByRecursion IsSpelledStep (steps_in (drop begin s.trail.items))
