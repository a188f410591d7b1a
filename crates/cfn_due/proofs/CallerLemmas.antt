-- What the crates above cite of the proofs here.
pub use Rattle.cfn_due.proofs.Staying.{arc_goes_on, directed_goes_on, existing_goes_on, full_goes_along, holding_goes_on, holding_goes_along, nothing_waits_is_full}
pub use Rattle.cfn_due.proofs.Noting.{goes_split, after_joined, step_in_range}
pub use Rattle.cfn_due.proofs.Siding.{side_goes_on, side_goes_along}
pub use Rattle.cfn_due.proofs.Upper.{pair_of_two}
pub use Rattle.cfn_due.proofs.Asking.{two_take_part}
