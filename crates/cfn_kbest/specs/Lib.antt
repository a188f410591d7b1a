pub mod Expanding
pub mod Steps
pub mod Searching
