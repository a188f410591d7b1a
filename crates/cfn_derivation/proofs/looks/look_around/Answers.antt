use Rattle.std.proofs.Common.{length, sym, ◌∙◌, subst, arith}
use Rattle.cfn_incidence.specs.Places.{StandsAt, place_at}
use Rattle.cfn_derivation.specs.Banned.{bans_of}
use Rattle.cfn_derivation.proofs.Going.{goes_then}
use Rattle.cfn_derivation.proofs.Looking.{looks_start, looks_end, around_start, around_next, is_none, where_none}
use Rattle.cfn_store.specs.Standing.{history}
use Rattle.cfn_derivation.proofs.looks.look_around.Goals as goal

pub loop-place-init : goal.loop-place-init
loop-place-init c =
    let s = c.args.store.now in
    record {
      looking = looks_start c.args.q (bans_of c.args.bans.now) s c.args.work.now (λ j. (place_at c.args.places.now j).function) (length c.args.places.now) c.requires.room c.requires.alive
          (around_start s.network (history s) c.args.q (bans_of c.args.bans.now) c.args.x c.args.work.now.waiting.items c.args.places.now c.requires.places c.requires.done);
      besides = c.requires.done;
    }

pub look_behind-emptied-requires-clause-place : goal.look_behind-emptied-requires-clause-place
look_behind-emptied-requires-clause-place c =
    subst (λ P. StandsAt P c.args.x (place_at c.args.places.now c.loop-place.place-index)) (sym c.loop-place.invariant.looking.goes.derived.network) (c.requires.places.stands c.loop-place.place-index c.loop-place-test.true)

pub look_behind-emptied-requires-clause-done : goal.look_behind-emptied-requires-clause-done
look_behind-emptied-requires-clause-done c = c.loop-place.invariant.besides (place_at c.args.places.now c.loop-place.place-index).function

pub returns-then-is_some-clause-goes : goal.returns-then-is_some-clause-goes
returns-then-is_some-clause-goes c =
    goes_then c.args.q (bans_of c.args.bans.now) c.args.store.now c.loop-place.store c.look_behind-emptied.new.store c.args.work.now c.loop-place.work c.look_behind-emptied.new.work c.loop-place.invariant.looking.goes
    c.look_behind-emptied.ensures.goes

pub loop-place-preserved : goal.loop-place-preserved
loop-place-preserved c =
    let none = is_none c.look_behind-emptied.result (sym c.is_some.ensures ∙ c.if-is_some.false) in
    around_next c.args.q (bans_of c.args.bans.now) c.args.store.now c.loop-place.store c.look_behind-emptied.new.store c.args.work.now c.loop-place.work c.look_behind-emptied.new.work
    c.args.x c.args.places.now c.loop-place.place-index c.loop-place.invariant c.look_behind-emptied.ensures.goes
    (where_none _ _ c.look_behind-emptied.result none c.look_behind-emptied.ensures.ends) (c.look_behind-emptied.ensures.done none)

pub returns-clause-done : goal.returns-clause-done
returns-clause-done c = λ none.
    looks_end c.args.q (bans_of c.args.bans.now) c.args.store.now c.loop-place.store c.args.work.now c.loop-place.work (λ j. (place_at c.args.places.now j).function) (length c.args.places.now)
    c.loop-place.place-index (omega (arith, c.loop-place-test.false)) c.loop-place.invariant.looking
