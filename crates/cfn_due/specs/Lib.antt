pub mod Dues
pub mod Nexts
pub mod Going
pub mod Remembered
pub mod Laws
pub mod Marking
pub mod Resting
pub mod Siding
