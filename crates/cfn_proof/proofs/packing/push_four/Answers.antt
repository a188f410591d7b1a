use Rattle.cfn_proof.proofs.Packed.{then_adds}
use Rattle.cfn_proof.proofs.packing.push_four.Goals as goal

pub returns-clause-ok : goal.returns-clause-ok
returns-clause-ok c = then_adds _ _ _ _ _ c.push_two-2.result c.in_ok-push_two.ensures.ok c.push_two-2.ensures.ok
