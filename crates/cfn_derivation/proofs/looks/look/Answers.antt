use Rattle.std.proofs.Common.{length, ap, ◌∙◌, subst, arith}
use Rattle.cfn_model.specs.Network.{IsNetwork, scope_at}
use Rattle.cfn_gain.proofs.CallerLemmas.{few_places}
use Rattle.cfn_derivation.specs.Banned.{bans_of}
use Rattle.cfn_derivation.proofs.Going.{goes_none, goes_then}
use Rattle.cfn_derivation.proofs.Looking.{along_start, along_next, along_end}
use Rattle.cfn_derivation.proofs.looks.look.Goals as goal

pub returns-then-not-takes_part-clause-goes : goal.returns-then-not-takes_part-clause-goes
returns-then-not-takes_part-clause-goes c = goes_none c.args.q (bans_of c.args.bans.now) c.args.store.now c.args.work.now c.requires.room

pub overflow_cast-place-end : goal.overflow_cast-place-end
overflow_cast-place-end c =
    let few = few_places c.args.store.now.network c.args.f (subst IsNetwork c.network-network.ensures c.law_limits.ensures) c.requires.function in
    let same = ap length (c.scope.ensures ∙ ap (λ P. scope_at P c.args.f) c.network-network.ensures) in
    omega (arith, few, same)

pub loop-place-init : goal.loop-place-init
loop-place-init c = along_start c.args.q (bans_of c.args.bans.now) c.args.store.now c.args.work.now c.args.f c.requires.room c.requires.alive (c.takes_part.ensures.0 c.if-not-takes_part.false)

pub returns-then-look_at-clause-goes : goal.returns-then-look_at-clause-goes
returns-then-look_at-clause-goes c =
    goes_then c.args.q (bans_of c.args.bans.now) c.args.store.now c.loop-place.store c.look_at.new.store c.args.work.now c.loop-place.work c.look_at.new.work c.loop-place.invariant.goes c.look_at.ensures.goes

pub loop-place-preserved : goal.loop-place-preserved
loop-place-preserved c =
    along_next c.args.q (bans_of c.args.bans.now) c.args.store.now c.loop-place.store c.look_at.new.store c.args.work.now c.loop-place.work c.look_at.new.work c.args.f c.loop-place.place c.loop-place.invariant
    c.look_at.ensures.goes (c.look_at.ensures.alive c.if-look_at.false) (λ a none. c.look_at.ensures.quiet c.if-look_at.false none a)

pub returns-clause-done : goal.returns-clause-done
returns-clause-done c = λ none.
    let same = ap length (c.scope.ensures ∙ ap (λ P. scope_at P c.args.f) c.network-network.ensures) in
    along_end c.args.q (bans_of c.args.bans.now) c.args.store.now c.loop-place.store c.args.work.now c.loop-place.work c.args.f c.loop-place.place (omega (arith, same, c.loop-place-test.false)) c.loop-place.invariant
