pub mod Pool
pub mod Parts
pub mod Steps
pub mod Word
pub mod Laws
