use Rattle.std.proofs.Common.{◌≡◌, ◌+◌, ◌-◌, drop, ap, ◌∙◌, arith}
use Rattle.std.proofs.lemmas.List.{drop-drop}
use Rattle.cfn_check.proofs.ledger.Ledger.undo.Goals as goal

pub loop-event-preserved : goal.loop-event-preserved
loop-event-preserved c =
    let n = c.loop-event._event - c.args.mark.events in
    let next : n + 1 ≡ c.loop-event._event + 1 - c.args.mark.events = omega (arith, c.loop-event.auto._event) in
    record {
      network = ap (λ s. s.network) c.undo_newest.ensures ∙ c.loop-event.invariant.network;
      history = ap (λ s. s.history) c.undo_newest.ensures ∙ ap (λ h. drop 1 h) c.loop-event.invariant.history ∙ drop-drop 1 n c.args.self.now.history ∙ ap (λ k. drop k c.args.self.now.history) next;
    }
