use Rattle.std.proofs.Common.{◌≡◌, sym, ap, ◌∙◌, subst, arith}
use Rattle.cfn_model.specs.Steps.{after}
use Rattle.cfn_store.specs.Standing.{history}
use Rattle.cfn_derivation.specs.Derived.{AllAlive, value_count}
use Rattle.cfn_dive.specs.Enforcing.{Finds}
use Rattle.cfn_vac.specs.Roots.{HasLifted}
use Rattle.cfn_dive.proofs.Rounds.{goes_still, goes_by, goes_along, at_place, groups_open}
use Rattle.cfn_dive.proofs.root.round.Goals as goal

pub raise-requires-clause-ready : goal.raise-requires-clause-ready
raise-requires-clause-ready g c =
    let s = c.args.store.now in
    let r = c.reserve.new.self in
    let way : history r ≡ history s = ap (λ b. after b r.base) c.reserve.ensures.block ∙ ap (after s.block) c.reserve.ensures.base in
    let network = c.reserve.ensures.network ∙ c.requires.vac in
    let count = c.count_values.ensures in
    let same = ap value_count (c.network-network.ensures ∙ c.requires.vac) in
    let len = c.block_len-before.ensures in
    let from = c.limits_from-limits.ensures.from in
    let upto = c.limits_from-limits.ensures.upto in
    record {
      network = network;
      alive = subst (λ h. AllAlive c.args.vac.now.network h) (sym way) (subst (λ P. AllAlive P (history s)) c.requires.vac (c.all_alive.ensures.alive c.if-not-all_alive.false));
      within = omega (arith, len, from);
      room = (let ok = c.in-Ok.ensures.ok in let sum = c.in_ok-room.ensures in omega (arith, len, upto, count, same, ok, sum));
    }

pub returns-clause-goes : goal.returns-clause-goes
returns-clause-goes g c =
    let still = goes_still c.args.store.now c.reserve.new.self c.args.asked.threshold c.reserve.ensures.network c.reserve.ensures.base c.reserve.ensures.block in
    let raised = goes_by c.reserve.new.self c.raise.new.store c.limits_from-limits.result c.args.asked.threshold c.limits_from-limits.ensures.threshold c.raise.ensures.adds in
    let settled = goes_by c.raise.new.store c.settle.new.store c.limits_from-limits-2.result c.args.asked.threshold c.limits_from-limits-2.ensures.threshold c.settle.ensures.adds in
    goes_along _ _ _ _ (goes_along _ _ _ _ still raised) settled

pub returns-clause-finds : goal.returns-clause-finds
returns-clause-finds g c =
    let new = c.settle.new.store in
    subst (λ k. Finds new.network (history new) k c.settle.result) c.limits_from-limits-2.ensures.threshold c.settle.ensures.finds

pub returns-clause-round : goal.returns-clause-round
returns-clause-round g c =
    let s = c.args.store.now in let r = c.reserve.new.self in
    record {
      start = r;
      at = at_place s r c.reserve.ensures.network c.reserve.ensures.base c.reserve.ensures.block;
      lifted = c.raise.new.store;
      lifts = subst (λ P. HasLifted P r c.raise.new.store) (sym c.requires.vac) c.raise.ensures.lifts;
      groups = groups_open c.raise.new.store c.settle.new.store c.settle.result c.settle.ensures.gains;
    }
