use Rattle.std.proofs.Common.{◌≡◌, reverse, sym, ap, ◌∙◌, subst}
use Rattle.cfn_model.specs.Network.{Network, IsNetwork}
use Rattle.cfn_tables.specs.Tables.{HasRoom}
use Rattle.cfn_check.proofs.Rooms.{room}
use Rattle.cfn_check.proofs.Saying.{ledger_same}
use Rattle.cfn_check.proofs.ledger.Ledger.record.Goals as goal

pub apply-requires-clause-room : goal.apply-requires-clause-room
apply-requires-clause-room c =
    let same : c.args.network.now ≡ c.self.inside.network.value = c.requires.same ∙ sym (ap (λ s. s.network) c.self.view_is) in
    let kept = ledger_same c.self.inside.network.value c.self.inside.costs c.prepare.new.self (reverse c.self.inside.trail.items) (rw same at c.prepare.ensures.shape) c.prepare.ensures.same c.self.invariant in
    subst (λ (P : Network). HasRoom P c.prepare.new.self) (sym same) (room _ _ _ (subst (λ (P : Network). IsNetwork P) same c.law_limits.ensures) kept)
