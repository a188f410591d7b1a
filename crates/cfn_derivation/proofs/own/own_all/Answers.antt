use Rattle.std.proofs.Common.{length, ap, arith}
use Rattle.cfn_derivation.specs.Banned.{bans_of}
use Rattle.cfn_derivation.proofs.Going.{goes_then}
use Rattle.cfn_derivation.proofs.Lowering.{below_at, all_next, all_end}
use Rattle.cfn_derivation.proofs.own.own_all.Goals as goal

pub own-requires-clause-variable : goal.own-requires-clause-variable
own-requires-clause-variable c =
    let below = below_at _ c.args.variables.now c.loop-x.x-index c.requires.variables c.loop-x-test.true in
    let same = ap (λ P. length P.sizes) c.loop-x.invariant.goes.derived.network in
    omega (arith, below, same)

pub returns-then-own-clause-goes : goal.returns-then-own-clause-goes
returns-then-own-clause-goes c =
    goes_then c.args.q (bans_of c.args.bans.now) c.args.store.now c.loop-x.store c.own.new.store c.args.work.now c.loop-x.work c.own.new.work c.loop-x.invariant.goes c.own.ensures.goes

pub loop-x-preserved : goal.loop-x-preserved
loop-x-preserved c =
    all_next c.args.q (bans_of c.args.bans.now) c.args.store.now c.loop-x.store c.own.new.store c.args.work.now c.loop-x.work c.own.new.work c.args.variables.now c.loop-x.x-index c.loop-x.invariant
    c.own.ensures.goes (c.own.ensures.alive c.if-own.false) (c.own.ensures.low c.if-own.false)

pub returns-clause-low : goal.returns-clause-low
returns-clause-low c = λ none x there.
    all_end c.args.q (bans_of c.args.bans.now) c.args.store.now c.loop-x.store c.args.work.now c.loop-x.work c.args.variables.now c.loop-x.x-index x (omega (arith, c.loop-x-test.false)) c.loop-x.invariant there
