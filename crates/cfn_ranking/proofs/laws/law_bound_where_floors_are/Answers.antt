use Rattle.cfn_ranking.proofs.WholeTree.{open_below_law, bound_from_law, bound_at_law, bound_most}
use Rattle.cfn_ranking.proofs.laws.law_bound_where_floors_are.Goals as goal

pub returns-clause-below : goal.returns-clause-below
returns-clause-below c = open_below_law

pub returns-clause-from : goal.returns-clause-from
returns-clause-from c = bound_from_law

pub returns-clause-at : goal.returns-clause-at
returns-clause-at c = bound_at_law

pub returns-clause-most : goal.returns-clause-most
returns-clause-most c = bound_most
