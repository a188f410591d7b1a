pub mod Kept
pub mod Joined
pub mod Merged
pub mod Rows
pub mod Made
pub mod CallerLemmas
