-- What the crates above cite of the proofs here.
pub use Rattle.cfn_net.proofs.Cells.{Inhabited, Inhabited-dims, Fits-at, Fits-from_each, Fits-length, cells-drop-pos, get_or-dims, length-dims, mul-pos, product_below, product_more}
pub use Rattle.cfn_net.proofs.Digits.{cell-below, cells-behind, cells-behind-le, cells-factor, digit_at, tuple_of, tuple_of-numbered}
pub use Rattle.cfn_net.proofs.Constants.{floor_at_root}
pub use Rattle.cfn_net.proofs.Sent.{snapshot_send, snapshot_sync}
