use Rattle.cfn_proof.proofs.WholeTree.{valid_behind_law, strict_behind_law}
use Rattle.cfn_proof.proofs.laws.law_valid_behind_where_nodes_are.Goals as goal

pub returns-clause-valid : goal.returns-clause-valid
returns-clause-valid c = valid_behind_law

pub returns-clause-strict : goal.returns-clause-strict
returns-clause-strict c = strict_behind_law
