-- Places on a path.
use Rattle.std.specs.Prelude.{◌≡◌, ℕ, ◌+◌, ◌-◌, List, ◌++◌, length}
use Rattle.std.specs.List.{AllByRecursion}
use Rattle.cfn_model.specs.declared.step.Event.{Event}
use Rattle.cfn_model.specs.Text.{IsSpelledStep}
use Rattle.cfn_store.specs.Standing.{Standing, history}

-- So many events stand before a place, and so many before its block.
pub record IsMark (events begin : ℕ) (s : Standing) : Type 0 where
  pub all : events ≡ length (history s)
  pub before : begin ≡ length s.base
  pub spelled : AllByRecursion IsSpelledStep s.block

-- A place is on the path that leads to where a store stands.
pub record IsBehind (mark s : Standing) : Type 0 where
  pub network : mark.network ≡ s.network
  pub later : List Event
  pub path : history s ≡ later ++ history mark

-- Back at a place, with room for the events that were taken back.
abbrev pub back_at : Standing → Standing → Standing
back_at mark s = record { network = s.network; base = mark.base; block = mark.block; spare = s.spare + (length (history s) - length (history mark)) }
