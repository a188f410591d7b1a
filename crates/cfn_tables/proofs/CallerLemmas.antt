-- What the crates above cite of the proofs here.
pub use Rattle.cfn_tables.proofs.Arities.{arity_small, place_small}
pub use Rattle.cfn_tables.proofs.Live.{live_is}
pub use Rattle.cfn_tables.proofs.Counting.{slots-take_more, slot_below, slots-drop_more, slots_few}
pub use Rattle.cfn_tables.proofs.Wiped.{wiped_is, is_wiped}
