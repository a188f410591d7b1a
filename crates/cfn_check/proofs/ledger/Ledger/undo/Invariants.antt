use Rattle.std.proofs.Common.{◌≡◌, ◌-◌, drop}
use Rattle.cfn_check.proofs.ledger.Ledger.undo.Given as goal

-- so many events are undone
abbrev pub invariant-loop-event : goal.invariant-loop-event
invariant-loop-event l = record {
  network : l.self.network ≡ l.fn.self.network;
  history : l.self.history ≡ drop (l._event - l.fn.mark.events) l.fn.self.history;
}
