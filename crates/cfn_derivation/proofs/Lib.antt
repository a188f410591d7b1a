pub mod Counting
mod Agreeing
pub mod Going
mod Striking
mod Lowering
mod Banning
mod Looking
mod Costing
mod Deriving
mod Flags
mod Noting
pub mod Alive
pub mod CallerLemmas
