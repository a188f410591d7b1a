pub mod Tree
pub mod List
pub mod Lines
pub mod Decoding
pub mod Fault
pub mod Laws
