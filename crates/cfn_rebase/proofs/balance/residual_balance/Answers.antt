use Rattle.std.proofs.Common.{◌+◌, sym, ap, ◌∙◌}
use Rattle.cfn_model.specs.Sums.{residual}
use Rattle.cfn_rebase.proofs.Balances.{in_place_at, newest_first, joined, light_joined}
use Rattle.cfn_rebase.proofs.balance.residual_balance.Goals as goal

pub residual_change-change-requires-clause-range : goal.residual_change-change-requires-clause-range
residual_change-change-requires-clause-range c = in_place_at c.args.network.now c.args.events.now c.loop-event.event-index c.requires.range c.loop-event-test.true

pub loop-event-preserved : goal.loop-event-preserved
loop-event-preserved c = record {
  is = λ tuple fits at. joined c.loop-event.sum c.residual_change-change.result _ _ (c.loop-event.invariant.is tuple fits at) (c.residual_change-change.ensures.is tuple fits at)
      ∙ sym (ap (λ h. residual c.args.network.now h c.args.f tuple) (newest_first c.args.events.now c.loop-event.event-index c.loop-event-test.true));
  light = light_joined (c.loop-event.event-index + 1) c.loop-event.sum c.residual_change-change.result c.loop-event.invariant.light c.residual_change-change.ensures.light;
}
