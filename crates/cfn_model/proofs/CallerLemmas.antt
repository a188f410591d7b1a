-- What the crates above cite of the proofs here.
pub use Rattle.cfn_model.proofs.Equivalence.{restrict_at, when_true, when_false, eqb_same, eqb_other}
pub use Rattle.cfn_model.proofs.Bounding.{bound_low, bounds, closed_leaves, each_leaf, fits_at, fits_length, lower_bounds, none_below, optimum}
pub use Rattle.cfn_model.proofs.Lowering.{close_lower, run_lower, valid_lower}
pub use Rattle.cfn_model.proofs.Paths.{fewer, tuple_fewer, small_took, small_refused}
pub use Rattle.cfn_model.proofs.Versions.{has_decision, has_every_tree, good_in_second, spelled_in_second}
pub use Rattle.cfn_model.proofs.KeptLimits.{read_networks}
pub use Rattle.cfn_model.proofs.Trying.{at_most}
pub use Rattle.cfn_model.proofs.Rows.{tiny, tiny_is_good, tri}
pub use Rattle.cfn_model.proofs.TreeRows.{first_runs, first_side, second_side, second_side_is_open, tri_certificate, tri_is_good, tri_text}
