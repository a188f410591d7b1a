pub mod Unlisted
pub mod Ordering
pub mod Spelling
pub mod Passing
pub mod Growing
pub mod Reading
pub mod Rows
pub mod CallerLemmas
