pub mod Passing
pub mod Telling
pub mod Items
pub mod Reading
pub mod Entries
pub mod Nodes
pub mod Verifying
