use Rattle.cfn_dive.proofs.States.{of_here}
use Rattle.cfn_dive.proofs.diver.Diver.make.Goals as goal

pub invariant_of-result : goal.invariant_of-result
invariant_of-result c = of_here c.args.network.now c.in_ok-parts.parts c.in_ok-parts.ensures.of
