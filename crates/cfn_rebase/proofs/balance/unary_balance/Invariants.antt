use Rattle.std.proofs.Common.{◌≡◌, reverse, take}
use Rattle.cfn_model.specs.Sums.{unary}
use Rattle.cfn_rebase.specs.Balancing.{worth, IsLight}
use Rattle.cfn_rebase.proofs.balance.unary_balance.Given as goal

abbrev pub invariant-loop-event : goal.invariant-loop-event
invariant-loop-event l = record {
  is : worth l.sum ≡ unary l.network (reverse (take l.event-index l.events)) l.x l.value;
  light : IsLight l.event-index l.sum;
}
