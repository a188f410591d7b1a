use Rattle.std.proofs.Common.{◌≡◌, List, ◌∙◌}
use Rattle.cfn_model.specs.Sums.{is_live_tuple}
use Rattle.cfn_scan.specs.Extremes.{IsNumbered}
use Rattle.cfn_store.specs.State.{history_of}
use Rattle.cfn_scan.proofs.CallerLemmas.{whether}
use Rattle.cfn_store.proofs.Stores.{over}
use Rattle.cfn_store.proofs.store.Store.is_live_cell.Goals as goal

pub returns : goal.returns
returns c =
    let P = c.self.inside.network.now in let h = history_of c.self.inside.state in
    over P c.self.inside.base c.self.inside.room c.self.inside.state c.args.self.now c.self.invariant.0 c.self.view_is (λ N g. (tuple : List _) → IsNumbered N c.args.f c.args.cell tuple → c.is_some.result ≡ is_live_tuple N g c.args.f tuple)
    (λ tuple is. c.is_some.ensures ∙ whether P h c.args.f tuple c.at.result (c.at.ensures tuple is))
