pub mod Leveled
pub mod Passing
pub mod Settling
pub mod Meeting
mod Making
pub mod Gather
pub mod Existing
pub mod Amounts
pub mod Owing
pub mod Supporting
pub mod Beside
pub mod Sure
