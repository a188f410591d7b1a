pub mod Splits
pub mod Weighing
pub mod Choosing
pub mod Passing
pub mod Fewest
