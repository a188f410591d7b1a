use Rattle.std.proofs.Common.{sym, ◌∙◌}
use Rattle.cfn_derivation.specs.Banned.{bans_of}
use Rattle.cfn_derivation.proofs.Deriving.{settle_next}
use Rattle.cfn_derivation.proofs.Looking.{is_none, where_none}
use Rattle.cfn_derivation.proofs.deriver.settle.Goals as goal

pub returns-then-is_some-clause-extends : goal.returns-then-is_some-clause-extends
returns-then-is_some-clause-extends c =
    settle_next c.args.q (bans_of c.args.bans.now) c.args.store.now c.loop-x.store c.look_around-emptied.new.store c.args.work.now c.loop-x.work c.take.new.self c.look_around-emptied.new.work
    c.loop-x.invariant.extends c.take.ensures.deletions c.take.ensures.room c.take.ensures.size c.look_around-emptied.ensures.goes

pub loop-x-preserved : goal.loop-x-preserved
loop-x-preserved c =
    let none = is_none c.look_around-emptied.result (sym c.is_some.ensures ∙ c.if-is_some.false) in
    record {
      extends = settle_next c.args.q (bans_of c.args.bans.now) c.args.store.now c.loop-x.store c.look_around-emptied.new.store c.args.work.now c.loop-x.work c.take.new.self c.look_around-emptied.new.work
          c.loop-x.invariant.extends c.take.ensures.deletions c.take.ensures.room c.take.ensures.size c.look_around-emptied.ensures.goes;
      alive = where_none _ _ c.look_around-emptied.result none c.look_around-emptied.ensures.ends;
      done = c.look_around-emptied.ensures.done none;
    }
