use Rattle.cfn_consistency.proofs.Rising.{nodes_rise, arcs_rise, directionals_rise, existentials_rise, fulls_rise, dead_falls, never_both}
use Rattle.cfn_consistency.proofs.laws.law_thresholds.Goals as goal

pub returns-clause-nodes : goal.returns-clause-nodes
returns-clause-nodes c = nodes_rise

pub returns-clause-arcs : goal.returns-clause-arcs
returns-clause-arcs c = arcs_rise

pub returns-clause-directional : goal.returns-clause-directional
returns-clause-directional c = directionals_rise

pub returns-clause-existential : goal.returns-clause-existential
returns-clause-existential c = existentials_rise

pub returns-clause-full : goal.returns-clause-full
returns-clause-full c = fulls_rise

pub returns-clause-dead : goal.returns-clause-dead
returns-clause-dead c = dead_falls

pub returns-clause-either : goal.returns-clause-either
returns-clause-either c = never_both
