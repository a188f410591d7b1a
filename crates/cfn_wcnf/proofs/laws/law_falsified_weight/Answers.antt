use Rattle.cfn_wcnf.proofs.Weights.{reads_as_formula}
use Rattle.cfn_wcnf.proofs.laws.law_falsified_weight.Goals as goal

pub returns : goal.returns
returns c = reads_as_formula
