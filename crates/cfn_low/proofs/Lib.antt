pub mod Sights
pub mod Turns
pub mod Rows
pub mod CallerLemmas
