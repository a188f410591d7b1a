pub mod Opens
pub mod Full
pub mod Moves
pub mod Shifts
pub mod Going
pub mod Binaries
