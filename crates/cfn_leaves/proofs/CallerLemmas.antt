-- What the crates above cite of the proofs here.
pub use Rattle.cfn_leaves.proofs.Halves.{half_tame, sound_start}
