use Rattle.std.proofs.Common.{sym, ◌∙◌}
use Rattle.cfn_store.specs.Standing.{history}
use Rattle.cfn_derivation.specs.Banned.{bans_of}
use Rattle.cfn_derivation.proofs.Going.{goes_then, low_goes}
use Rattle.cfn_derivation.proofs.Deriving.{looked_done, all_low, extends_of, extends_then, extends_low, closes, ends_closed}
use Rattle.cfn_derivation.proofs.Looking.{is_none}
use Rattle.cfn_derivation.proofs.deriver.propagate.Goals as goal

pub look_all-emptied-requires-clause-done : goal.look_all-emptied-requires-clause-done
look_all-emptied-requires-clause-done c = λ f apart.
    looked_done c.args.q (bans_of c.args.bans.now) c.args.store.now c.own_all-emptied.new.store c.args.work.now c.own_all-emptied.new.work c.args.touched.now f c.requires.some c.own_all-emptied.ensures.goes c.requires.functions apart

pub returns-then-is_some-clause-extends : goal.returns-then-is_some-clause-extends
returns-then-is_some-clause-extends c =
    extends_of c.args.q (bans_of c.args.bans.now) c.args.store.now c.own_all-emptied.new.store c.args.work.now c.own_all-emptied.new.work c.own_all-emptied.ensures.goes

pub returns-then-is_some-2-clause-extends : goal.returns-then-is_some-2-clause-extends
returns-then-is_some-2-clause-extends c =
    extends_of c.args.q (bans_of c.args.bans.now) c.args.store.now c.look_all-emptied.new.store c.args.work.now c.look_all-emptied.new.work
    (goes_then c.args.q (bans_of c.args.bans.now) c.args.store.now c.own_all-emptied.new.store c.look_all-emptied.new.store c.args.work.now c.own_all-emptied.new.work c.look_all-emptied.new.work
    c.own_all-emptied.ensures.goes c.look_all-emptied.ensures.goes)

pub returns-clause-extends : goal.returns-clause-extends
returns-clause-extends c =
    let q = c.args.q in let bans = bans_of c.args.bans.now in
    extends_then q bans c.args.store.now c.look_all-emptied.new.store c.settle.new.store c.args.work.now c.look_all-emptied.new.work c.settle.new.work
    (extends_of q bans c.args.store.now c.look_all-emptied.new.store c.args.work.now c.look_all-emptied.new.work
    (goes_then q bans c.args.store.now c.own_all-emptied.new.store c.look_all-emptied.new.store c.args.work.now c.own_all-emptied.new.work c.look_all-emptied.new.work
    c.own_all-emptied.ensures.goes c.look_all-emptied.ensures.goes))
    c.settle.ensures.extends

pub returns-clause-ends : goal.returns-clause-ends
returns-clause-ends c =
    let q = c.args.q in let bans = bans_of c.args.bans.now in
    let no_own = is_none c.own_all-emptied.result (sym c.is_some.ensures ∙ c.if-is_some.false) in
    let low = all_low q bans c.args.store.now c.own_all-emptied.new.store c.args.work.now c.own_all-emptied.new.work c.args.costly.now c.own_all-emptied.ensures.goes c.requires.variables (c.own_all-emptied.ensures.low no_own) in
    let looks = c.look_all-emptied.ensures.goes in
    ends_closed _ _ _ c.settle.result c.settle.ensures.ends
    (λ none alive. closes c.settle.new.store.network (history c.settle.new.store) q bans alive
    (extends_low q bans c.look_all-emptied.new.store c.settle.new.store c.look_all-emptied.new.work c.settle.new.work c.settle.ensures.extends
    (λ x. low_goes c.own_all-emptied.new.store c.look_all-emptied.new.store q bans looks.deletions x looks.derived (low x)))
    (c.settle.ensures.done none))

pub settle-requires-clause-done : goal.settle-requires-clause-done
settle-requires-clause-done c = c.look_all-emptied.ensures.done (is_none c.look_all-emptied.result (sym c.is_some-2.ensures ∙ c.if-is_some-2.false))
