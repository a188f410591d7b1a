use Rattle.cfn_consistency.proofs.Grouping.{nodes_group, groups_join, open_groups_join}
use Rattle.cfn_consistency.proofs.laws.law_groups.Goals as goal

pub returns-clause-nodes : goal.returns-clause-nodes
returns-clause-nodes c = nodes_group

pub returns-clause-join : goal.returns-clause-join
returns-clause-join c = groups_join

pub returns-clause-open : goal.returns-clause-open
returns-clause-open c = open_groups_join
