use Rattle.std.proofs.Common.{ap}
use Rattle.cfn_rebase.proofs.Beginning.{none_kept}
use Rattle.cfn_rebase.proofs.best.kept_values.Goals as goal

pub returns-in_default-clause-keeps : goal.returns-in_default-clause-keeps
returns-in_default-clause-keeps c = none_kept c.args.network.now c.args.values.now c.in_ok-narrow.field-0 c.in_ok-kept.kept.held c.law_limits.ensures c.in_ok-narrow.ensures c.in_default.is (ap (λ s. s.held) c.in_ok-kept.ensures)
