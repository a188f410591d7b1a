-- What the crates above cite of the proofs here.
pub use Rattle.cfn_dac.proofs.Counting.{some_two, some_three}
pub use Rattle.cfn_dac.proofs.Opening.{is_open_by, is_closed_by}
pub use Rattle.cfn_dac.proofs.Directing.{either}
pub use Rattle.cfn_dac.proofs.Planning.{not_negative}
pub use Rattle.cfn_dac.proofs.Places.{variables_apart}
