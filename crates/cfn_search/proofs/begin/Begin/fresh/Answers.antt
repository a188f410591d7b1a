use Rattle.std.proofs.Common.{refl, None}
use Rattle.cfn_search.proofs.Beginnings.{fresh_may, fresh_start}
use Rattle.cfn_search.proofs.begin.Begin.fresh.Goals as goal

pub returns-clause-may : goal.returns-clause-may
returns-clause-may c = fresh_may c.args.network.now _ c.law_limits.ensures c.in_ok-new.ensures c.in_ok-empty.ensures refl

pub returns-clause-start : goal.returns-clause-start
returns-clause-start c = fresh_start c.args.network.now (record { tree = c.in_ok-new.field-0; best = c.in_ok-empty.field-0; part = None; recorded = c.args.recorded }) c.in_ok-new.ensures c.in_ok-empty.ensures refl
