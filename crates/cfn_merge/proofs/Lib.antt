pub mod Wholes
pub mod Reading
pub mod Tested
pub mod Ranked
pub mod Parts
pub mod Walks
pub mod CallerLemmas
