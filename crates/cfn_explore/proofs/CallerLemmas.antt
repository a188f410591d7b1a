-- What the crates above cite of the proofs here.
pub use Rattle.cfn_explore.proofs.Crossing.{deadline_sync, never_sync}
