use Rattle.std.proofs.Common.{arith}
use Rattle.cfn_store.specs.Standing.{history}
use Rattle.cfn_due.proofs.CallerLemmas.{two_take_part}
use Rattle.cfn_derivation.specs.Banned.{bans_of}
use Rattle.cfn_derivation.proofs.Going.{goes_then, done_besides}
use Rattle.cfn_derivation.proofs.Looking.{along_start, along_next, along_end, two_of}
use Rattle.cfn_derivation.proofs.looks.look_behind.Goals as goal

pub loop-place-init : goal.loop-place-init
loop-place-init c =
    let s = c.args.store.now in
    record {
      along = along_start c.args.q (bans_of c.args.bans.now) s c.args.work.now c.args.from.function c.requires.room c.requires.alive
          (two_take_part s.network (history s) c.args.from.function (two_of s.network c.args.x c.args.from c.requires.place c.if-from-x.false));
      besides = c.requires.done;
    }

pub returns-then-look_unless_quiet-clause-goes : goal.returns-then-look_unless_quiet-clause-goes
returns-then-look_unless_quiet-clause-goes c =
    goes_then c.args.q (bans_of c.args.bans.now) c.args.store.now c.loop-place.store c.look_unless_quiet.new.store c.args.work.now c.loop-place.work c.look_unless_quiet.new.work c.loop-place.invariant.along.goes c.look_unless_quiet.ensures.goes

pub loop-place-preserved : goal.loop-place-preserved
loop-place-preserved c = record {
  along = along_next c.args.q (bans_of c.args.bans.now) c.args.store.now c.loop-place.store c.look_unless_quiet.new.store c.args.work.now c.loop-place.work c.look_unless_quiet.new.work c.args.from.function c.loop-place.place
      c.loop-place.invariant.along c.look_unless_quiet.ensures.goes (c.look_unless_quiet.ensures.alive c.if-look_unless_quiet.false) (λ a none. c.look_unless_quiet.ensures.quiet c.if-look_unless_quiet.false none a);
  besides = done_besides c.args.q (bans_of c.args.bans.now) c.loop-place.store c.look_unless_quiet.new.store c.loop-place.work c.look_unless_quiet.new.work c.args.x c.args.from.function c.look_unless_quiet.ensures.goes c.loop-place.invariant.besides;
}

pub returns-clause-done : goal.returns-clause-done
returns-clause-done c = λ none.
    let two = two_of c.args.store.now.network c.args.x c.args.from c.requires.place c.if-from-x.false in
    along_end c.args.q (bans_of c.args.bans.now) c.args.store.now c.loop-place.store c.args.work.now c.loop-place.work c.args.from.function c.loop-place.place (omega (arith, two, c.loop-place-test.false)) c.loop-place.invariant.along
