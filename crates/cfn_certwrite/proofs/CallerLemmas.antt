-- What the crates above cite of the proofs here.
pub use Rattle.cfn_certwrite.proofs.Order.{from_root, in_order, own_first, tree_in_order, text_left}
pub use Rattle.cfn_certwrite.proofs.Upgrading.{is_upgraded}
