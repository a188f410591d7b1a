use Rattle.std.proofs.Common.{sym, subst}
use Rattle.cfn_model.specs.Network.{IsNetwork}
use Rattle.cfn_scan.specs.Lines.{IsLine}
use Rattle.cfn_store.specs.Standing.{history}
use Rattle.cfn_scan.proofs.CallerLemmas.{side_line}
use Rattle.cfn_dac.proofs.Planning.{least_zero}
use Rattle.cfn_dac.proofs.binary.Binary.least.Goals as goal

pub costs_nothing_still-requires-clause-line : goal.costs_nothing_still-requires-clause-line
costs_nothing_still-requires-clause-line c =
    let s = c.args.store.now in let pair = c.args.pair in
    subst (IsLine s.network (history s) pair.function pair.place c.args.value pair.other) (sym c.line-line.ensures)
    (side_line s.network (history s) pair.function pair.place pair.other c.args.self.now.side c.requires.binary.side c.args.value c.requires.value c.requires.live)

pub least_along-requires-clause-line : goal.least_along-requires-clause-line
least_along-requires-clause-line c =
    let s = c.args.store.now in let pair = c.args.pair in
    subst (IsLine s.network (history s) pair.function pair.place c.args.value pair.other) (sym c.line-line.ensures)
    (side_line s.network (history s) pair.function pair.place pair.other c.args.self.now.side c.requires.binary.side c.args.value c.requires.value c.requires.live)

pub returns-then-costs_nothing_still : goal.returns-then-costs_nothing_still
returns-then-costs_nothing_still c =
    let s = c.args.store.now in
    let found = c.costs_nothing_still.ensures c.if-costs_nothing_still.true in
    least_zero s.network (history s) c.args.pair c.args.value found.0 (subst IsNetwork c.network.ensures c.law_limits.ensures) c.law_exact.ensures c.requires.pair found.1
