pub mod Trimming
pub mod Making
pub mod Tables
pub mod Leaves
pub mod Shifting
