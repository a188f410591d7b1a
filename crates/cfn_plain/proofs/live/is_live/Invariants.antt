use Rattle.std.proofs.Common.{◌≡◌, drop}
use Rattle.cfn_model.specs.Sums.{is_live}
use Rattle.cfn_plain.proofs.live.is_live.Given as goal

-- the events so far do not take the value
abbrev pub invariant-loop-event : goal.invariant-loop-event
invariant-loop-event l = is_live (drop l.event-index l.history) l.x l.value ≡ is_live l.history l.x l.value
