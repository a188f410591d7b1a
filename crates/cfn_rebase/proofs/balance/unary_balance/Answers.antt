use Rattle.std.proofs.Common.{sym, ap, ◌∙◌}
use Rattle.cfn_model.specs.Sums.{unary}
use Rattle.cfn_rebase.proofs.Balances.{in_place_at, newest_first, joined, light_joined}
use Rattle.cfn_rebase.proofs.balance.unary_balance.Goals as goal

pub unary_change-change-requires : goal.unary_change-change-requires
unary_change-change-requires c = record { range = in_place_at c.args.network.now c.args.events.now c.loop-event.event-index c.requires.range c.loop-event-test.true }

pub loop-event-preserved : goal.loop-event-preserved
loop-event-preserved c = record {
  is = joined c.loop-event.sum c.unary_change-change.result _ _ c.loop-event.invariant.is c.unary_change-change.ensures.is
      ∙ sym (ap (λ h. unary c.args.network.now h c.args.x c.args.value) (newest_first c.args.events.now c.loop-event.event-index c.loop-event-test.true));
  light = light_joined c.loop-event.event-index c.loop-event.sum c.unary_change-change.result c.loop-event.invariant.light c.unary_change-change.ensures.light;
}
