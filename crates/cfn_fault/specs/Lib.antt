pub mod Nodes
pub mod Fault
pub mod Lines
pub mod Decoding
pub mod Judging
pub mod Laws
