pub mod Said
pub mod Position
pub mod Kinds
pub mod Listing
pub mod Checking
pub mod Tree
