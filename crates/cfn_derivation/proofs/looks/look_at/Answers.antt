use Rattle.std.proofs.Common.{sym, ap, ◌∙◌, arith}
use Rattle.std.specs.Prelude.{slice_index}
use Rattle.cfn_model.specs.Network.{variable_at}
use Rattle.cfn_derivation.specs.Banned.{bans_of}
use Rattle.cfn_derivation.proofs.Agreeing.{at_place}
use Rattle.cfn_derivation.proofs.Going.{goes_none, goes_then}
use Rattle.cfn_derivation.proofs.Looking.{looking_start, looking_next}
use Rattle.cfn_derivation.proofs.looks.look_at.Goals as goal

pub loop-value-init : goal.loop-value-init
loop-value-init c = looking_start c.args.q (bans_of c.args.bans.now) c.args.store.now c.args.work.now c.args.f c.args.place c.requires.room c.requires.alive c.requires.part

pub returns-then-look_value-clause-goes : goal.returns-then-look_value-clause-goes
returns-then-look_value-clause-goes c =
    goes_then c.args.q (bans_of c.args.bans.now) c.args.store.now c.loop-value.store c.look_value.new.store c.args.work.now c.loop-value.work c.look_value.new.work c.loop-value.invariant.goes c.look_value.ensures.goes

pub loop-value-preserved : goal.loop-value-preserved
loop-value-preserved c =
    looking_next c.args.q (bans_of c.args.bans.now) c.args.store.now c.loop-value.store c.look_value.new.store c.args.work.now c.loop-value.work c.look_value.new.work c.args.f c.args.place c.loop-value.value c.loop-value.invariant
    c.look_value.ensures.goes (c.look_value.ensures.alive c.if-look_value.false) c.look_value.ensures.quiet

pub returns-then-all_cost_less-clause-goes : goal.returns-then-all_cost_less-clause-goes
returns-then-all_cost_less-clause-goes c = goes_none c.args.q (bans_of c.args.bans.now) c.args.store.now c.args.work.now c.requires.room

pub returns-then-all_cost_less-clause-quiet : goal.returns-then-all_cost_less-clause-quiet
returns-then-all_cost_less-clause-quiet c = λ no none a place live unbanned. c.all_cost_less.ensures c.if-all_cost_less.true a place live

pub returns-clause-quiet : goal.returns-clause-quiet
returns-clause-quiet c = λ no none a place.
    let P = c.loop-value.store.network in
    let below = at_place P c.args.f c.args.place a place in
    let size = c.size-value-end.ensures ∙ ap (λ s. slice_index c.network-network.result.now.sizes (slice_index s c.args.place)) c.scope.ensures
    ∙ ap (λ N. slice_index N.sizes (variable_at N c.args.f c.args.place)) (c.network-network.ensures ∙ sym c.loop-value.invariant.goes.derived.network) in
    c.loop-value.invariant.quiet a (omega (arith, below, size, c.loop-value-test.false)) none place
