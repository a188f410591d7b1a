use Rattle.cfn_proof.proofs.WholeTree.{valid_law, strict_law}
use Rattle.cfn_proof.proofs.laws.law_valid_where_nodes_are.Goals as goal

pub returns-clause-valid : goal.returns-clause-valid
returns-clause-valid c = valid_law

pub returns-clause-strict : goal.returns-clause-strict
returns-clause-strict c = strict_law
