-- What the crates above cite of the proofs here.
pub use Rattle.cfn_queue.proofs.Flags.{has_room, in_behind, put_is, take_is}
pub use Rattle.cfn_queue.proofs.Unique.{least_once}
