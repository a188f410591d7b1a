use Rattle.cfn_proof.proofs.WholeTree.{open_below_behind_law, bound_from_behind_law, bound_at_behind_law}
use Rattle.cfn_proof.proofs.laws.law_bound_behind_where_floors_are.Goals as goal

pub returns-clause-below : goal.returns-clause-below
returns-clause-below c = open_below_behind_law

pub returns-clause-from : goal.returns-clause-from
returns-clause-from c = bound_from_behind_law

pub returns-clause-at : goal.returns-clause-at
returns-clause-at c = bound_at_behind_law
