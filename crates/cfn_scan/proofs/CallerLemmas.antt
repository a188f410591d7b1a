-- What the crates above cite of the proofs here.
pub use Rattle.cfn_scan.proofs.Exact.{all_in_range, exact_here, exact_behind}
pub use Rattle.cfn_scan.proofs.Amounts.{exact_now, unary_amount, residual_amount, picked_one, picked_other, picked_swapped, picked_twice}
pub use Rattle.cfn_scan.proofs.Tuples.{tuple_at}
pub use Rattle.cfn_scan.proofs.Sides.{side_line}
pub use Rattle.cfn_scan.proofs.Offsets.{offset_below, offset_apart, offset_next, offset_least}
pub use Rattle.cfn_scan.proofs.Wrapping.{itself, exchange, plus_stands, less_stands}
pub use Rattle.cfn_scan.proofs.Scans.{small_word}
pub use Rattle.cfn_scan.proofs.Lines.{two_of}
pub use Rattle.cfn_scan.proofs.Extremes.{once, least, extreme, told, live_cost, whether, none_there, one_there, nothing_moved}
