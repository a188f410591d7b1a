use Rattle.cfn_model.proofs.Equivalence.{equivalence}
use Rattle.cfn_model.proofs.laws.law_equivalence.Goals as goal

pub returns : goal.returns
returns c = equivalence
