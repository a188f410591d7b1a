pub mod Sides
pub mod Values
pub mod Slots
pub mod Tables
pub mod Possible
