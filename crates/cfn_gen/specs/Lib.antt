pub mod Generator
pub mod Building
