use Rattle.cfn_proof.proofs.WholeTree.{open_below_law, bound_from_law, bound_at_law}
use Rattle.cfn_proof.proofs.laws.law_bound_where_floors_are.Goals as goal

pub returns-clause-below : goal.returns-clause-below
returns-clause-below c = open_below_law

pub returns-clause-from : goal.returns-clause-from
returns-clause-from c = bound_from_law

pub returns-clause-at : goal.returns-clause-at
returns-clause-at c = bound_at_law
