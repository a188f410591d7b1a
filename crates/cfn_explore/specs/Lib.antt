pub mod Backtracks
pub mod Falling
pub mod Exploring
pub mod Values
pub mod Telling
