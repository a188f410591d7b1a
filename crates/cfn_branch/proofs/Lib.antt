pub mod Ordering
pub mod Scores
pub mod Passes
pub mod Counting
pub mod Seconds
pub mod Least
pub mod Halving
pub mod Blaming
