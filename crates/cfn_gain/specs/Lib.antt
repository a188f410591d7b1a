pub mod Settling
pub mod Passes
pub mod Calls
pub mod Levels
pub mod Supports
pub mod Gains
