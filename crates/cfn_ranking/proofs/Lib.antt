mod Nodes
mod Counts
mod Lists
mod Keeping
mod Entries
mod Places
mod Roots
mod Numbers
mod Ends
pub mod Paths
pub mod TreeLemmas
pub mod WholeTree
pub mod Spelled
pub mod CallerLemmas
