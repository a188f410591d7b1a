use Rattle.std.proofs.Common.{length, ap, sym, ◌∙◌, arith}
use Rattle.std.specs.Prelude.{slice_index}
use Rattle.cfn_derivation.specs.Banned.{bans_of}
use Rattle.cfn_derivation.proofs.Going.{goes_then}
use Rattle.cfn_derivation.proofs.Lowering.{below_at}
use Rattle.cfn_derivation.proofs.Looking.{looks_start, looks_next, looks_end, none_in, is_none, where_none}
use Rattle.cfn_derivation.proofs.looks.look_all.Goals as goal

pub loop-f-init : goal.loop-f-init
loop-f-init c =
    looks_start c.args.q (bans_of c.args.bans.now) c.args.store.now c.args.work.now (slice_index c.args.functions.now) (length c.args.functions.now) c.requires.room c.requires.alive
    (λ f apart. c.requires.done f (none_in c.args.functions.now f (λ j h. apart j (omega arith) h)))

pub look-emptied-requires-clause-function : goal.look-emptied-requires-clause-function
look-emptied-requires-clause-function c =
    let below = below_at _ c.args.functions.now c.loop-f.f-index c.requires.functions c.loop-f-test.true in
    let same = ap (λ P. length P.functions) c.loop-f.invariant.goes.derived.network in
    omega (arith, below, same)

pub returns-then-is_some-clause-goes : goal.returns-then-is_some-clause-goes
returns-then-is_some-clause-goes c =
    goes_then c.args.q (bans_of c.args.bans.now) c.args.store.now c.loop-f.store c.look-emptied.new.store c.args.work.now c.loop-f.work c.look-emptied.new.work c.loop-f.invariant.goes c.look-emptied.ensures.goes

pub loop-f-preserved : goal.loop-f-preserved
loop-f-preserved c =
    let none = is_none c.look-emptied.result (sym c.is_some.ensures ∙ c.if-is_some.false) in
    looks_next c.args.q (bans_of c.args.bans.now) c.args.store.now c.loop-f.store c.look-emptied.new.store c.args.work.now c.loop-f.work c.look-emptied.new.work (slice_index c.args.functions.now)
    (length c.args.functions.now) c.loop-f.f-index c.loop-f.invariant c.look-emptied.ensures.goes (where_none _ _ c.look-emptied.result none c.look-emptied.ensures.ends) (c.look-emptied.ensures.done none)

pub returns-clause-done : goal.returns-clause-done
returns-clause-done c = λ none.
    looks_end c.args.q (bans_of c.args.bans.now) c.args.store.now c.loop-f.store c.args.work.now c.loop-f.work (slice_index c.args.functions.now) (length c.args.functions.now) c.loop-f.f-index
    (omega (arith, c.loop-f-test.false)) c.loop-f.invariant
