pub mod CallerLemmas
pub mod Counting
pub mod Fitting
pub mod Kept
pub mod Recorded
pub mod Rows
pub mod Spares
