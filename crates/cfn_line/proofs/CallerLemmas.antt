-- What the crates above cite of the proofs here.
pub use Rattle.cfn_line.proofs.Sending.{ok, err, put_once, say_once, then, stop, respell, nothing, at_done, begin, go_on, finish, halt, line-drop, line-item, line-dropped, text-drop, text-append}
pub use Rattle.cfn_line.proofs.Adding.{add_on, add_break, add_finish, add_then, add_stop, add_say, add_fail}
pub use Rattle.cfn_line.proofs.Numerals.{one_digit, pair_digits}
