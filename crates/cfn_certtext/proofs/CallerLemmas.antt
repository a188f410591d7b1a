-- What the crates above cite of the proofs here.
pub use Rattle.cfn_certtext.proofs.Telling.{EndsAt, ends_at, has_end, no_end}
pub use Rattle.cfn_certtext.proofs.Words.{position_none, spelled}
