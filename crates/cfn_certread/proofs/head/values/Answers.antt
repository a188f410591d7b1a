use Rattle.std.proofs.Common.{◌∙◌}
use Rattle.cfn_certread.proofs.Telling.{values_go, values_over}
use Rattle.cfn_certread.proofs.head.values.Goals as goal

pub returns-in_default-item : goal.returns-in_default-item
returns-in_default-item c = record {
  text = c.in_ok-event.ensures.text ∙ c.loop-values.invariant.text;
  read = λ version ls stands. values_over c.loop-values.reader c.next-in-loop-values.new.reader ls version c.in_ok-event.event c.loop-values.values.items c.in_default-item.not-Value (c.loop-values.invariant.read version ls stands) c.in_ok-event.ensures.event;
  stop = tt;
}

pub loop-values-preserved : goal.loop-values-preserved
loop-values-preserved c = record {
  text = c.in_ok-event.ensures.text ∙ c.loop-values.invariant.text;
  read = λ version ls stands. values_go c.loop-values.reader c.next-in-loop-values.new.reader ls version c.in_ok-event.event c.in-Value-item.value c.loop-values.values.items c.push-in-loop-values.new.self.items c.in_ok-push-2.ensures.items c.in-Value-item.is
      (c.loop-values.invariant.read version ls stands) c.in_ok-event.ensures.event;
}
