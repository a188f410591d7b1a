use Rattle.std.proofs.Common.{List, refl, sym, ap, ◌∙◌, subst, arith}
use Rattle.std.specs.Prelude.{◌==◌}
use Rattle.cfn_model.specs.Network.{Network}
use Rattle.cfn_machine.specs.Pool.{IsTask}
use Rattle.cfn_low.specs.Holding.{Holding}
use Rattle.cfn_proof.specs.declared.tree.Node.{Node}
use Rattle.cfn_dive.specs.Diving.{GoesOn}
use Rattle.cfn_dive.specs.Making.{IsMade}
use Rattle.cfn_dive.proofs.Falling.{look_falls}
use Rattle.cfn_dive.proofs.Makings.{made, closed_made, made_ok, goes_first, next_below, next_none}
use Rattle.cfn_dive.proofs.parts.Parts.grow.Goals as goal

pub returns-then-floor-from-clause-made : goal.returns-then-floor-from-clause-made
returns-then-floor-from-clause-made g c =
    let P = c.args.self.now.store.network in
    let task = c.args.task.now.task in
    let timed = g.H.Halt.limited c.args.halt.now in
    let seen = c.look.new.holder.seen in
    let upper = c.law_kept.ensures.seen in
    let great = c.law_limits.ensures.upper in
    let reached = c.if-floor-from.true in
    let from = c.from.ensures in
    let is_floor = c.floor.ensures in
    let is_seen = c.seen.ensures in
    made_ok c.closed_at_once.result (λ made. IsMade P task c.args.backtracks timed seen made.tree made.cut) c.closed_at_once.ensures.tree c.closed_at_once.ensures.cut
    (λ made tree cut. closed_made P task c.args.backtracks timed seen made.tree made.cut tree cut (subst (λ Q. IsTask Q task) c.requires.task c.law_kept-2.ensures) (omega (arith, reached, from, is_floor, is_seen)) (omega (arith, upper, great, ap (λ (Q : Network). Q.upper) (c.requires.word ∙ sym c.requires.network))) c.requires.some)

pub loop-next-init : goal.loop-next-init
loop-next-init g c =
    let begins = c.in_ok-growth.ensures.begins in
    let start = c.in_ok-growth.growth in
    let nodes = begins.nodes in
    let left = begins.left in
    let some = c.law_kept-2.ensures.some in
    let grants = c.grant-grant.ensures in
    let back = c.requires.some in
    record {
      diving = c.in_ok-growth.ensures.diving;
      base = begins.base;
      granted = begins.granted;
      threshold = begins.threshold ∙ c.seen-2.ensures;
      looked = (let below = c.look.ensures.below in let seen = ap (λ (h : Holding). h.seen) c.look.ensures.seen in omega (arith, below, seen));
      falls = look_falls c.args.self.now.store.network c.args.holder.now c.look.new.holder c.look.result c.look.ensures.seen c.look.ensures.falls;
      next = goes_first start c.grant-grant.result (g.H.Halt.limited c.args.halt.now) (omega (arith, nodes, some, grants)) (omega (arith, left, back));
      some = λ none. absurd (begins.some none);
      few = omega (arith, nodes);
    }

pub expand-requires-clause-few : goal.expand-requires-clause-few
expand-requires-clause-few g c =
    let below = next_below c.loop-next.growth c.grant-grant.result (g.H.Halt.limited c.args.halt.now) c.loop-next.next c.in-Some.leaf c.loop-next.invariant.next c.in-Some.is in
    let fits = c.grant-grant.type_inv in
    omega (arith, below, fits)

pub returns-clause-made : goal.returns-clause-made
returns-clause-made g c =
    let P = c.args.self.now.store.network in
    let timed = g.H.Halt.limited c.args.halt.now in
    let inv = c.loop-next.invariant in
    let none = next_none c.loop-next.next c.in_default.not-Some in
    let grants = c.grant-grant.ensures in
    let few = inv.few in
    let upper = c.law_kept-3.ensures.seen in
    let great = c.law_limits.ensures.upper in
    subst (λ (tree : List Node). IsMade P c.args.task.now.task c.args.backtracks timed c.loop-next.holder.seen tree (c.loop-next.growth.left == 0)) (sym c.in_ok-shared.ensures)
    (made P c.loop-next.self c.loop-next.growth c.args.task.now.task c.args.backtracks timed c.loop-next.holder.seen _ inv.diving inv.base inv.threshold
    (omega (arith, upper, great, ap (λ (Q : Network). Q.upper) (c.requires.word ∙ sym c.requires.network))) inv.granted (inv.some none) (omega (arith, few, grants))
    (subst (λ o. GoesOn c.loop-next.growth c.args.task.now.task.grant timed o) none (subst (λ n. GoesOn c.loop-next.growth n timed c.loop-next.next) grants inv.next)) refl)
