pub mod Tuples
pub mod Supports
pub mod Groups
