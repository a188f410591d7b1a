use Rattle.std.proofs.Common.{◌-◌}
use Rattle.cfn_store.specs.Standing.{history}
use Rattle.cfn_store.proofs.Doubting.{seen, line_is}
use Rattle.cfn_store.proofs.store.Store.least_seen.Goals as goal

pub line-requires : goal.line-requires
line-requires c =
    let s = c.args.self.now in
    let side = seen s c.args.f c.args.place c.args.side.now c.requires.place.place c.requires.side in
    (s.network, history s, c.args.f, c.args.place, 1 - c.args.place, side.2, c.requires.place)

pub least_along-requires-clause-other : goal.least_along-requires-clause-other
least_along-requires-clause-other c =
    let s = c.args.self.now in
    (seen s c.args.f c.args.place c.args.side.now c.requires.place.place c.requires.side).0

pub least_along-requires-clause-line : goal.least_along-requires-clause-line
least_along-requires-clause-line c =
    let s = c.args.self.now in
    let side = seen s c.args.f c.args.place c.args.side.now c.requires.place.place c.requires.side in
    line_is s.network (history s) c.args.f c.args.place c.args.value (1 - c.args.place) c.args.side.now c.line.result side.2 c.requires.place c.requires.live c.line.ensures
