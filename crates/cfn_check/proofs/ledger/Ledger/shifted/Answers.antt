use Rattle.cfn_check.proofs.Rooms.{slight}
use Rattle.cfn_check.proofs.ledger.Ledger.shifted.Goals as goal

pub returns-clause-small : goal.returns-clause-small
returns-clause-small c = rw (← c.self.view_is) (slight _ _ _ c.args.f c.args.slot c.self.invariant)
