pub mod Giving
pub mod Parsed
pub mod Reading
pub mod Stages
pub mod Steps
