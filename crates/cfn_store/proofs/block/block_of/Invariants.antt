use Rattle.std.proofs.Common.{◌≡◌, take}
use Rattle.cfn_store.specs.Events.{steps_in}
use Rattle.cfn_store.proofs.block.block_of.Given as goal

abbrev pub invariant-loop-event : goal.invariant-loop-event
invariant-loop-event l = l.block ≡ steps_in (take l.event-index l.events)
