-- What the crates above cite of the proofs here.
pub use Rattle.cfn_certread.proofs.Growing.{IsWhole, all_read, begin_reads}
pub use Rattle.cfn_certread.proofs.Narrowed.{all_small}
pub use Rattle.cfn_certread.proofs.NodeLines.{decision_back, same_item, some_due, step_back}
pub use Rattle.cfn_certread.proofs.Places.{few_places}
