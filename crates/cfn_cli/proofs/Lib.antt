pub mod Asking
pub mod Building
pub mod Numbers
pub mod Rows
pub mod Taking
pub mod Values
