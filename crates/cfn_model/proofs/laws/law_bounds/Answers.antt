use Rattle.cfn_model.proofs.Bounding.{bounds, closed_leaves, each_leaf}
use Rattle.cfn_model.proofs.laws.law_bounds.Goals as goal

pub returns-clause-bounds : goal.returns-clause-bounds
returns-clause-bounds c = bounds

pub returns-clause-closed_leaves : goal.returns-clause-closed_leaves
returns-clause-closed_leaves c = closed_leaves

pub returns-clause-each_leaf : goal.returns-clause-each_leaf
returns-clause-each_leaf c = each_leaf
