use Rattle.std.proofs.Common.{◌≡◌, drop}
use Rattle.cfn_model.specs.Sums.{is_cut}
use Rattle.cfn_plain.proofs.live.is_cut.Given as goal

-- the events so far do not cut the tuple
abbrev pub invariant-loop-event : goal.invariant-loop-event
invariant-loop-event l = is_cut (drop l.event-index l.history) l.f l.number ≡ is_cut l.history l.f l.number
