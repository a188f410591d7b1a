pub mod Flags
mod Rows
pub mod Order
pub mod Unique
pub mod Keeping
pub mod CallerLemmas
