use Rattle.std.proofs.Common.{MatchOption}
use Rattle.cfn_scan.specs.Extremes.{NonePicked, IsExtreme}
use Rattle.cfn_scan.specs.declared.scan.Sense.TheVariants.{Greatest}
use Rattle.cfn_scan.proofs.CallerLemmas.{once}
use Rattle.cfn_store.proofs.Stores.{over}
use Rattle.cfn_store.proofs.store.Store.greatest_residual.Goals as goal

pub returns : goal.returns
returns c = over c.self.inside.network.now c.self.inside.base c.self.inside.room c.self.inside.state c.args.self.now c.self.invariant.0 c.self.view_is (λ N h. MatchOption c.first.result (NonePicked N h c.args.f c.args.place c.args.value) (IsExtreme N h c.args.f c.args.place c.args.value Greatest))
    (once c.self.inside.network.now _ c.args.f c.args.place c.args.value Greatest c.first.result c.first.ensures)
