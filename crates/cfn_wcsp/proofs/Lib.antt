pub mod Repeating
pub mod Stamps
pub mod Cells
pub mod Steps
pub mod Listing
pub mod Adding
pub mod SharedTables
