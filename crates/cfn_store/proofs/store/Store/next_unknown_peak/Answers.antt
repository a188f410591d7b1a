use Rattle.std.proofs.Common.{◌<◌, length, subst, arith}
use Rattle.std.proofs.lemmas.List.{get_or_read}
use Rattle.cfn_store.proofs.Peaking.{low_more}
use Rattle.cfn_store.proofs.Stores.{peaks_there}
use Rattle.cfn_store.proofs.store.Store.next_unknown_peak.Goals as goal

pub loop-x-preserved : goal.loop-x-preserved
loop-x-preserved c =
    let there : c.loop-x.x < length c.self.inside.state.peaks.items = let t = c.loop-x-test.true in let l = c.len.ensures in omega (arith, t, l) in
    let read = get_or_read c.self.inside.state.peaks.items c.loop-x.x c.index.result.now there c.index.ensures 0 in (
      (let f = c.loop-x.invariant.0 in omega (arith, f)),
      low_more c.args.self.now.network _ c.self.inside.state.peaks.items c.args.from c.loop-x.x c.args.bound
          (peaks_there c.self.inside.network.now c.self.inside.base c.self.inside.room c.self.inside.state c.args.self.now c.self.invariant.0 c.self.view_is)
          (let b = c.ranges.bound in omega (arith, b)) there (subst (λ w. w < c.args.bound) read c.if-index-bound.true) c.loop-x.invariant.1,
    )
