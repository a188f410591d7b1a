use Rattle.std.proofs.Common.{◌≡◌, ap, ◌∙◌, subst}
use Rattle.std.specs.Prelude.{slice_index, pos, IsTrue}
use Rattle.cfn_model.specs.Network.{IsNetwork, variable_at}
use Rattle.cfn_model.specs.Sums.{unary, is_live}
use Rattle.cfn_rows.specs.Sets.{AreLive}
use Rattle.cfn_store.specs.Standing.{history}
use Rattle.cfn_store.specs.Rooms.{sets_of}
use Rattle.cfn_dac.specs.Moves.{IsTotalBetween}
use Rattle.cfn_dac.proofs.Planning.{least_zero, least_more, least_all}
use Rattle.cfn_dac.proofs.binary.least_apart.Goals as goal

pub returns-then-total-eq0 : goal.returns-then-total-eq0
returns-then-total-eq0 c =
    let s = c.args.store.now in let pair = c.args.pair in let values = c.live-other-items.result.now in let b = slice_index values c.loop-other.other-index in
    let y = ap (λ l. slice_index l pair.other) c.scope.ensures ∙ ap (λ P. variable_at P pair.function pair.other) c.network-2.ensures in
    let live = ((subst (λ x. AreLive (sets_of s) x values) y c.live-other-items.ensures).live c.loop-other.other-index c.loop-other-test.true).1 in
    let cost = subst (λ x. IsTrue (is_live (history s) x b) → pos c.unary.result ≡ unary s.network (history s) x b) y c.unary.ensures live in
    least_zero s.network (history s) pair c.args.value b (subst IsNetwork c.network.ensures c.law_limits.ensures) c.law_exact.ensures c.requires.pair
    (subst (λ n. IsTotalBetween s.network (history s) pair c.args.value b n) c.if-total-eq0.true (c.with_unary-total.ensures s.network (history s) pair c.args.value b cost c.least_between-found.ensures))

pub loop-other-preserved : goal.loop-other-preserved
loop-other-preserved c =
    let s = c.args.store.now in let pair = c.args.pair in let values = c.live-other-items.result.now in let b = slice_index values c.loop-other.other-index in
    let y = ap (λ l. slice_index l pair.other) c.scope.ensures ∙ ap (λ P. variable_at P pair.function pair.other) c.network-2.ensures in
    let live = ((subst (λ x. AreLive (sets_of s) x values) y c.live-other-items.ensures).live c.loop-other.other-index c.loop-other-test.true).1 in
    let cost = subst (λ x. IsTrue (is_live (history s) x b) → pos c.unary.result ≡ unary s.network (history s) x b) y c.unary.ensures live in
    least_more s.network (history s) pair c.args.value values c.loop-other.other-index c.loop-other.least c.with_unary-total.result c.min-least.result c.loop-other.invariant
    (c.with_unary-total.ensures s.network (history s) pair c.args.value b cost c.least_between-found.ensures) c.min-least.ensures

pub returns : goal.returns
returns c =
    let s = c.args.store.now in let pair = c.args.pair in let values = c.live-other-items.result.now in
    let y = ap (λ l. slice_index l pair.other) c.scope.ensures ∙ ap (λ P. variable_at P pair.function pair.other) c.network-2.ensures in
    least_all s pair c.args.value values c.loop-other.other-index c.loop-other.least (subst IsNetwork c.network.ensures c.law_limits.ensures) c.requires.pair
    (subst (λ x. AreLive (sets_of s) x values) y c.live-other-items.ensures) c.loop-other-test.false c.loop-other.invariant
