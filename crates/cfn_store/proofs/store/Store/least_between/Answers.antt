use Rattle.std.proofs.Common.{MatchOption}
use Rattle.cfn_scan.specs.Extremes.{NoneBetween, IsLeastBetween}
use Rattle.cfn_scan.proofs.CallerLemmas.{least}
use Rattle.cfn_store.proofs.Stores.{over}
use Rattle.cfn_store.proofs.store.Store.least_between.Goals as goal

pub returns : goal.returns
returns c = over c.self.inside.network.now c.self.inside.base c.self.inside.room c.self.inside.state c.args.self.now c.self.invariant.0 c.self.view_is (λ N h. MatchOption c.first.result (NoneBetween N h c.args.f c.args.place c.args.value c.args.other c.args.other_value) (IsLeastBetween N h c.args.f c.args.place c.args.value c.args.other c.args.other_value))
    (least c.self.inside.network.now _ c.args.f c.args.place c.args.value c.args.other c.args.other_value c.first.result c.first.ensures)
