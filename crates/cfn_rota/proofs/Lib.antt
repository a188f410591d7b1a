pub mod Tallies
pub mod Moves
pub mod Dealt
pub mod Gathering
pub mod Crossing
pub mod CallerLemmas
