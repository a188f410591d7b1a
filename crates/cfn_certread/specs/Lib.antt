pub mod Narrowing
pub mod Making
pub mod Reading
