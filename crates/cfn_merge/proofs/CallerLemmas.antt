-- What the crates above cite of the proofs here.
pub use Rattle.cfn_merge.proofs.Tested.{is_test}
