-- What the crates above cite of the proofs here.
pub use Rattle.cfn_derivation.proofs.Alive.{alive_of_nodes}
pub use Rattle.cfn_derivation.proofs.Counting.{at_most_all, one_less}
pub use Rattle.cfn_derivation.proofs.Going.{derived_then, within_of}
