-- What the crates above cite of the proofs here.
pub use Rattle.cfn_mending.proofs.Merged.{merged_good, all_merged_good, all_merged_lower, all_merged_spelled, all_merged_anew}
pub use Rattle.cfn_mending.proofs.Made.{makes_from_one, makes_same, makes_split, makes_close, makes_leave, makes_whole}
