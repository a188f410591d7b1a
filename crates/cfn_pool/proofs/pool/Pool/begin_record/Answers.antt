use Rattle.std.proofs.Common.{sym, ap, ◌∙◌, arith}
use Rattle.cfn_model.specs.Network.{Network}
use Rattle.cfn_machine.specs.Pool.{opening_pool}
use Rattle.cfn_record.specs.Histories.{HistoryValue}
use Rattle.cfn_pool.specs.Views.{Held, pool}
use Rattle.cfn_pool.proofs.Kept.{held}
use Rattle.cfn_pool.proofs.Recorded.{first_told}
use Rattle.cfn_pool.proofs.pool.Pool.begin_record.Goals as goal

-- the history has the pool's budget, and nothing is done yet
pub invariant_of-self : goal.invariant_of-self
invariant_of-self g c =
    let P = g.M.Incumbent.network in
    let now = held c.self.inside.leaves c.self.inside.holder c.self.inside.recording in
    let history = c.reserve.new.self in
    let budget = sym (ap (λ (h : Held). (pool h).budget) c.self.view_is) ∙ sym c.budget.ensures ∙ sym (ap (λ (h : HistoryValue). h.budget) c.new-history.ensures) ∙ sym c.reserve.ensures.budget in
    record {
      room = let room = c.in_ok-reserve.ensures.ok in (omega (arith, room), omega arith);
      held = record {
        own = c.self.invariant.held.own;
        pool_is = c.self.invariant.held.pool_is;
        rows = c.self.invariant.held.rows;
        recorded = first_told P c.requires.opening.0 history (pool now) 3 (ap pool c.self.view_is ∙ c.requires.opening.1 ∙ ap (opening_pool P c.requires.opening.0) budget)
            (c.reserve.ensures.happened ∙ ap (λ (h : HistoryValue). h.happened) c.new-history.ensures)
            (let few = c.requires.budget in let is = ap (λ (h : Held). (pool h).budget) c.self.view_is in omega (arith, few, budget, is))
            (let top = c.law_limits.ensures.upper in let same = ap (λ (Q : Network). Q.upper) c.requires.own in omega (arith, top, same));
      };
    }
