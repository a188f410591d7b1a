use Rattle.cfn_gain.proofs.Reading.{IsLeastTo}
use Rattle.cfn_gain.proofs.nodes.least.Given as goal

abbrev pub invariant-loop-a : goal.invariant-loop-a
invariant-loop-a l = IsLeastTo l.store l.x l.values l.a-index l.least
