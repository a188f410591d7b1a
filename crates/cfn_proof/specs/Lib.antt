pub mod Nodes
pub mod Local
pub mod Packing
pub mod Certificates
pub mod Bytes
pub mod Legs
