-- What the crates above cite of the proofs here.
pub use Rattle.cfn_proof.proofs.TreeLemmas.{tree_at_is}
pub use Rattle.cfn_proof.proofs.Growth.{length-close_at, length-split_at, close_at-other, close_at-same, length-leave_at, leave_at-other, leave_at-same, length-split_behind_at, split_behind_at-first, split_behind_at-other, split_behind_at-same, split_behind_at-second, split_at-first, split_at-other, split_at-same, split_at-second, split_numbers}
pub use Rattle.cfn_proof.proofs.Bases.{after_append, after_behind, run_append}
pub use Rattle.cfn_proof.proofs.Grafts.{graft_at-moved, graft_at-other, graft_at-same, length-graft_at}
pub use Rattle.cfn_proof.proofs.Grafted.{before_graft, count_graft, graft_law, kept_by_graft, splits_graft, strict_graft, valid_graft}
pub use Rattle.cfn_proof.proofs.Histories.{before_close, before_some, before_split, before_split_behind, count_close, count_split, count_split_behind, named, side_of, splits_close, splits_split, splits_split_behind}
pub use Rattle.cfn_proof.proofs.Kept.{strict_behind_split, strict_split_behind, valid_behind_split, valid_split_behind}
pub use Rattle.cfn_proof.proofs.WholeTree.{bound_at_behind_law, bound_at_law, bound_from_behind_law, bound_from_law, lines_law, none_open_law, open_below_behind_law, open_below_law, some_open_law, spelled_law, strict_behind_law, strict_law, valid_behind_law, valid_law}
pub use Rattle.cfn_proof.proofs.Parting.{same_above}
