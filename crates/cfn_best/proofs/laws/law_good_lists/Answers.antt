use Rattle.cfn_best.proofs.Unlisted.{others_cost_more}
use Rattle.cfn_best.proofs.Ordering.{listed_in_order, listed_are_distinct, cheapest, fewer}
use Rattle.cfn_best.proofs.laws.law_good_lists.Goals as goal

pub returns-clause-others : goal.returns-clause-others
returns-clause-others c = others_cost_more

pub returns-clause-in_order : goal.returns-clause-in_order
returns-clause-in_order c = listed_in_order

pub returns-clause-distinct : goal.returns-clause-distinct
returns-clause-distinct c = listed_are_distinct

pub returns-clause-cheapest : goal.returns-clause-cheapest
returns-clause-cheapest c = cheapest

pub returns-clause-fewer : goal.returns-clause-fewer
returns-clause-fewer c = fewer
