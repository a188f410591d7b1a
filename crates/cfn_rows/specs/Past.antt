-- The events that sets stand for, for contracts alone.
use Rattle.std.specs.Prelude.{List, ◌∷◌, drop}
use Rattle.cfn_model.specs.declared.step.Event.{Event}
use Rattle.cfn_rows.specs.declared.past.Change.{Change}
use Rattle.cfn_rows.specs.declared.past.Change.TheVariants.{Add, Back}

-- The events after a change: one more, or the newest one less.
abbrev pub changed : Change → List Event → List Event
changed (Add event) events = event ∷ events
changed Back events = drop 1 events
