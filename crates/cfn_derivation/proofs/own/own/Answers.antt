use Rattle.cfn_derivation.specs.Banned.{bans_of}
use Rattle.cfn_derivation.proofs.Going.{goes_then}
use Rattle.cfn_derivation.proofs.Lowering.{lowering_start, lowering_next}
use Rattle.cfn_derivation.proofs.own.own.Goals as goal

pub loop-value-init : goal.loop-value-init
loop-value-init c = lowering_start c.args.q (bans_of c.args.bans.now) c.args.store.now c.args.work.now c.args.x c.requires.room c.requires.alive

pub returns-then-own_value-clause-goes : goal.returns-then-own_value-clause-goes
returns-then-own_value-clause-goes c =
    goes_then c.args.q (bans_of c.args.bans.now) c.args.store.now c.loop-value.store c.own_value.new.store c.args.work.now c.loop-value.work c.own_value.new.work c.loop-value.invariant.goes c.own_value.ensures.goes

pub loop-value-preserved : goal.loop-value-preserved
loop-value-preserved c =
    lowering_next c.args.q (bans_of c.args.bans.now) c.args.store.now c.loop-value.store c.own_value.new.store c.args.work.now c.loop-value.work c.own_value.new.work c.args.x c.loop-value.value c.loop-value.invariant
    c.own_value.ensures.goes (c.own_value.ensures.alive c.if-own_value.false) c.own_value.ensures.low
