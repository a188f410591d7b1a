pub mod Crossing
pub mod CallerLemmas
