use Rattle.std.proofs.Common.{sym, ap, ◌∙◌, subst, arith}
use Rattle.cfn_model.specs.Network.{Network}
use Rattle.cfn_store.specs.Standing.{history}
use Rattle.cfn_derivation.specs.Derived.{AllAlive, value_count}
use Rattle.cfn_enforcing_tests.proofs.lifting.lift.Goals as goal

pub lift_once-requires-clause-ready : goal.lift_once-requires-clause-ready
lift_once-requires-clause-ready c =
    let same = c.in_ok-reserve.ensures.network ∙ c.project_first.ensures ∙ c.requires.network ∙ sym c.begin.ensures.network in
    let count = c.count_values.ensures ∙ ap value_count (c.network.ensures ∙ same) in
    let few = c.if-count_values-gt50.false in let spare = c.in_ok-reserve.ensures.ok in
    let long = c.block_len.ensures in let short = c.if-block_len-gt50.false in
    record {
      network = same;
      alive = subst (λ (N : Network). AllAlive N (history c.reserve.new.self)) same (c.all_alive.ensures.alive c.if-not-all_alive.false);
      within = omega (arith, long, short);
      room = omega (arith, count, few, spare, long);
    }
