pub mod Entries
pub mod Lines
pub mod Decoding
pub mod Replaying
pub mod Fault
pub mod Laws
pub mod Histories
