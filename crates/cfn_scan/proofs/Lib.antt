mod Changing
pub mod Wrapping
pub mod Shifting
pub mod Offsets
pub mod Exact
pub mod Scans
pub mod Threes
pub mod Lanes
pub mod Readings
pub mod Amounts
pub mod Extremes
pub mod Lines
pub mod Sides
pub mod Tuples
pub mod Telling
pub mod CallerLemmas
