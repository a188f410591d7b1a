pub mod Following
pub mod Repeating
pub mod Spelling
pub mod Parting
pub mod Passing
pub mod Reading
pub mod Searching
pub mod Judging
pub mod Rows
mod Spelled
pub mod CallerLemmas
