pub mod Listing
pub mod Counting
pub mod Sorting
pub mod Arities
pub mod CallerLemmas
