use Rattle.cfn_model.proofs.Lowering.{run_lower, valid_lower}
use Rattle.cfn_model.proofs.laws.law_lowering.Goals as goal

pub returns-clause-runs : goal.returns-clause-runs
returns-clause-runs c = run_lower

pub returns-clause-trees : goal.returns-clause-trees
returns-clause-trees c = valid_lower
