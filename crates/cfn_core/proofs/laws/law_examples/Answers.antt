use Rattle.cfn_core.proofs.Examples.{is_splittable, split_spends, recall_refuses}
use Rattle.cfn_core.proofs.laws.law_examples.Goals as goal

pub returns-clause-legal : goal.returns-clause-legal
returns-clause-legal c = is_splittable

pub returns-clause-spent : goal.returns-clause-spent
returns-clause-spent c = split_spends

pub returns-clause-refused : goal.returns-clause-refused
returns-clause-refused c = recall_refuses
