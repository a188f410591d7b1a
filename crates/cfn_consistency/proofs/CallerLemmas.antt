-- What the crates above cite of the proofs here.
pub use Rattle.cfn_consistency.proofs.Rising.{nodes_rise, arcs_rise, directionals_rise, existentials_rise, fulls_rise, dead_falls, never_both}
pub use Rattle.cfn_consistency.proofs.Locality.{part_is_local, arc_is_local, directional_is_local, existential_is_local, nodes_are_local}
pub use Rattle.cfn_consistency.proofs.Grouping.{nodes_group, groups_join, open_groups_join, lead_on, groups_lead_on, one_shift, one_close, lead_weaker}
pub use Rattle.cfn_consistency.proofs.Opening.{count_most, later_open, part_after, pair_kept, open_kept}
pub use Rattle.cfn_consistency.proofs.Families.{Within, without_within, part_within, tuple_within, closed_stays_closed}
pub use Rattle.cfn_consistency.proofs.Deriving.{without_more, derivations_join, one_more}
pub use Rattle.cfn_consistency.proofs.Sources.{tuple_live_at, sources_differ}
