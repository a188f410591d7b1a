-- What the crates above cite of the proofs here.
pub use Rattle.cfn_pool.proofs.Kept.{price_is}
pub use Rattle.cfn_pool.proofs.Spares.{still, still_taken, spares, spares_taken}
