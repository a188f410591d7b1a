use Rattle.std.proofs.Common.{◌≡◌, ◌≤◌, ◌-◌}
use Rattle.std.specs.Prelude.{None}
use Rattle.cfn_low.specs.Holding.{price_of}
use Rattle.cfn_explore.specs.Falling.{HasFallen}
use Rattle.cfn_dive.specs.Diving.{IsDiving, GoesOn}
use Rattle.cfn_dive.proofs.parts.Parts.grow.Given as goal

abbrev pub invariant-loop-next : goal.invariant-loop-next
invariant-loop-next g l = record {
  diving : IsDiving l.fn.self.store.network l.self l.growth;
  base : l.growth.base.value ≡ l.task.task.path;
  granted : l.growth.granted ≡ l.backtracks;
  threshold : l.growth.threshold ≡ l.holder.seen;
  looked : l.holder.seen ≤ price_of g.M.Incumbent.network l.fn.holder;
  falls : HasFallen l.fn.self.store.network l.fn.holder l.holder;
  next : GoesOn l.growth l.grant (g.H.Halt.limited l.halt) l.next;
  some : l.next ≡ None → 1 ≤ l.growth.nodes;
  few : l.growth.nodes ≤ l.grant;
}

abbrev pub decreases-loop-next : goal.decreases-loop-next
decreases-loop-next g l = l.grant - l.growth.nodes
