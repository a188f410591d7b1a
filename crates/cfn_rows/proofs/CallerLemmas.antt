-- What the crates above cite of the proofs here.
pub use Rattle.cfn_rows.proofs.Remaining.{live_below_most, live_below_none, live_below_some, live_below_two, fewer_below}
