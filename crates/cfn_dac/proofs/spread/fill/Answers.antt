use Rattle.std.proofs.Common.{◌<◌, subst, arith}
use Rattle.cfn_model.specs.Network.{IsNetwork}
use Rattle.cfn_store.specs.Standing.{history}
use Rattle.cfn_gain.proofs.CallerLemmas.{does_then, on_ok}
use Rattle.cfn_dac.proofs.Spreading.{share_due, fits_extend, filled_covers, filled_within}
use Rattle.std.proofs.Common.{◌+◌}
use Rattle.cfn_dac.proofs.Grouped.{fills_later, fills_none, fills_trimmed, fills_extend}
use Rattle.cfn_dac.proofs.spread.fill.Goals as goal

pub extend-requires-clause-fits : goal.extend-requires-clause-fits
extend-requires-clause-fits c =
    let s = c.args.store.now in let pair = c.args.pair in let q = c.requires in
    let some : 0 < c.share-share.result = (let f = c.if-share-eq0.false in omega (arith, f)) in
    let due = share_due s.network (history s) pair c.args.limits.threshold c.args.moves.now c.args.value c.share-share.result c.law_exact.ensures q.pair q.covers q.within c.share-share.ensures some in
    let trim = c.in_ok-trim.ensures in
    fits_extend s c.trim.new.store c.args.limits pair c.args.value c.share-share.result (subst IsNetwork c.network.ensures c.law_limits.ensures) q.goes trim.does.adds.network q.value some due trim.trims trim.below

pub returns-clause-does : goal.returns-clause-does
returns-clause-does c = does_then c.args.store.now c.trim.new.store c.extend.new.store c.args.limits c.extend.result c.in_ok-trim.ensures.does c.extend.ensures.does

pub returns-clause-covers : goal.returns-clause-covers
returns-clause-covers c =
    let trim = c.in_ok-trim.ensures in
    on_ok c.extend.result (filled_covers c.args.store.now c.trim.new.store c.extend.new.store c.args.limits c.args.pair c.args.moves.now c.args.value c.share-share.result trim.does.adds.network trim.trims c.requires.covers c.share-share.ensures) c.extend.ensures.made

pub returns-clause-within : goal.returns-clause-within
returns-clause-within c =
    let trim = c.in_ok-trim.ensures in
    on_ok c.extend.result (filled_within c.args.store.now c.trim.new.store c.extend.new.store c.args.limits c.args.pair c.args.moves.now c.args.value c.share-share.result (subst IsNetwork c.network.ensures c.law_limits.ensures) c.requires.pair trim.does.adds.network trim.trims c.requires.within) c.extend.ensures.made

pub returns-then-share-eq0-clause-fills : goal.returns-then-share-eq0-clause-fills
returns-then-share-eq0-clause-fills c =
    let s = c.args.store.now in let b = c.args.value in
    fills_later s s c.args.limits.threshold c.args.pair c.args.moves.now b b (b + 1) (omega arith) (fills_none s c.args.limits.threshold c.args.pair c.args.moves.now b)

pub returns-in_err-trim-clause-fills : goal.returns-in_err-trim-clause-fills
returns-in_err-trim-clause-fills c =
    let s = c.args.store.now in let k = c.args.limits.threshold in let pair = c.args.pair in let moves = c.args.moves.now in let b = c.args.value in
    let trim = c.in_err-trim.ensures in
    fills_later s c.trim.new.store k pair moves b b (b + 1) (omega arith)
    (fills_trimmed s c.trim.new.store k pair moves b (subst IsNetwork c.network.ensures c.law_limits.ensures) c.law_exact.ensures c.requires.pair c.requires.held trim.trims trim.keeps trim.gains)

pub returns-clause-fills : goal.returns-clause-fills
returns-clause-fills c =
    let s = c.args.store.now in let k = c.args.limits.threshold in let pair = c.args.pair in let moves = c.args.moves.now in let b = c.args.value in
    let trim = c.in_ok-trim.ensures in let net = subst IsNetwork c.network.ensures c.law_limits.ensures in
    let one = fills_trimmed s c.trim.new.store k pair moves b net c.law_exact.ensures c.requires.pair c.requires.held trim.trims trim.keeps trim.gains in
    fills_extend s c.trim.new.store c.extend.new.store k pair moves b c.share-share.result c.extend.result net c.requires.pair trim.does.adds.network one c.extend.ensures.made c.extend.ensures.stopped

pub share-share-requires-clause-live : goal.share-share-requires-clause-live
share-share-requires-clause-live c = λ a place some. (c.requires.within a place (omega arith) some).live
