use Rattle.std.proofs.Common.{◌+◌, ◌<◌, sym, ap, ◌∙◌, subst, arith}
use Rattle.std.specs.Prelude.{slice_index}
use Rattle.cfn_model.specs.Network.{variable_at}
use Rattle.cfn_store.specs.Standing.{history}
use Rattle.cfn_dac.specs.Full.{first_of}
use Rattle.cfn_dac.specs.Moves.{IsLack}
use Rattle.cfn_dac.proofs.Spreading.{IsShareTo, share_skip, share_more, share_all, first_along, lack_along}
use Rattle.cfn_dac.proofs.spread.share_along.Goals.{then-amount-share, else-amount-share}
use Rattle.cfn_dac.proofs.spread.share_along.Goals as goal

pub loop-first-preserved : goal.loop-first-preserved
loop-first-preserved c =
    let s = c.args.store.now in let pair = c.args.pair in let moves = c.args.moves.now in let n = c.loop-first.first in
    let x = ap (λ l. slice_index l pair.place) c.scope.ensures ∙ ap (λ P. variable_at P pair.function pair.place) c.network-2.ensures in
    let size = c.size-first-end.ensures ∙ ap (λ P. slice_index P.sizes (slice_index c.scope.result.now pair.place)) c.network-3.ensures ∙ ap (slice_index s.network.sizes) x in
    let small : n < slice_index s.network.sizes (first_of s.network pair) = (let l = c.loop-first-test.true in omega (arith, l, size)) in
    elim c.if-amount-share.branch [
      | then-amount-share w ↦ share_more s.network (history s) pair moves c.args.value n c.loop-first.share w.lack_of.result c.if-amount-share.share c.loop-first.invariant
          (subst (IsLack s.network (history s) pair n c.args.value (slice_index moves n)) (sym w.lack_of.ensures)
          (lack_along s.network (history s) pair n c.args.value (slice_index moves n) w.least.result (w.least.ensures s.network (history s) pair.function pair.other c.args.value pair.place (first_along s.network (history s) pair moves n c.args.value c.loop-first.share c.args.line.now c.requires.pair c.requires.line c.requires.live small w.if-amount-share.true))))
          (w.share-is ∙ w.max-share.ensures)
      | else-amount-share w ↦
          subst (IsShareTo s.network (history s) pair moves c.args.value (n + 1)) (sym w.share-is)
          (share_skip s.network (history s) pair moves c.args.value n c.loop-first.share c.law_exact.ensures c.requires.pair.function c.loop-first.invariant w.if-amount-share.false)
    ]

pub returns : goal.returns
returns c =
    let s = c.args.store.now in let pair = c.args.pair in
    let x = ap (λ l. slice_index l pair.place) c.scope.ensures ∙ ap (λ P. variable_at P pair.function pair.place) c.network-2.ensures in
    let size = c.size-first-end.ensures ∙ ap (λ P. slice_index P.sizes (slice_index c.scope.result.now pair.place)) c.network-3.ensures ∙ ap (slice_index s.network.sizes) x in
    share_all s.network (history s) pair c.args.moves.now c.args.value c.loop-first.first c.loop-first.share c.requires.pair (omega (arith, c.loop-first-test.false, size)) c.loop-first.invariant
