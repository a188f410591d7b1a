use Rattle.std.proofs.Common.{ap, ◌∙◌}
use Rattle.std.specs.Prelude.{◌==◌}
use Rattle.cfn_tables.proofs.CallerLemmas.{live_is}
use Rattle.cfn_check.proofs.ledger.Ledger.is_live.Goals as goal

pub returns : goal.returns
returns c =
    let value = rw (← c.self.view_is) at c.requires in
    c.is_live.ensures ∙ rw (← c.self.view_is) (ap (λ n. n == 0) (c.self.invariant.says.takers c.args.x c.args.value value.variable value.value) ∙ live_is _ c.args.x c.args.value)
