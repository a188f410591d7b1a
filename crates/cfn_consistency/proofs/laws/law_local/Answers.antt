use Rattle.cfn_consistency.proofs.Locality.{part_is_local, arc_is_local, directional_is_local, existential_is_local, nodes_are_local}
use Rattle.cfn_consistency.proofs.laws.law_local.Goals as goal

pub returns-clause-part : goal.returns-clause-part
returns-clause-part c = part_is_local

pub returns-clause-arc : goal.returns-clause-arc
returns-clause-arc c = arc_is_local

pub returns-clause-directional : goal.returns-clause-directional
returns-clause-directional c = directional_is_local

pub returns-clause-existential : goal.returns-clause-existential
returns-clause-existential c = existential_is_local

pub returns-clause-nodes : goal.returns-clause-nodes
returns-clause-nodes c = nodes_are_local
