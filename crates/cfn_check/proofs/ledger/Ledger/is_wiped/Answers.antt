use Rattle.std.proofs.Common.{sym, ◌∙◌}
use Rattle.cfn_tables.proofs.CallerLemmas.{wiped_is, is_wiped}
use Rattle.cfn_check.proofs.ledger.Ledger.is_wiped.Goals as goal

pub returns : goal.returns
returns c =
    rw (← c.self.view_is) (
      λ yes. wiped_is _ _ _ c.self.invariant.says (sym c.is_wiped.ensures ∙ yes),
      λ wiped. c.is_wiped.ensures ∙ is_wiped _ _ _ c.self.invariant.says wiped,
    )
