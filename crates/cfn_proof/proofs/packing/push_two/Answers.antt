use Rattle.cfn_proof.proofs.Packed.{then_adds}
use Rattle.cfn_proof.proofs.packing.push_two.Goals as goal

pub returns-clause-ok : goal.returns-clause-ok
returns-clause-ok c = then_adds _ _ _ _ _ c.push_number-2.result c.in_ok-push_number.ensures.ok c.push_number-2.ensures.ok
