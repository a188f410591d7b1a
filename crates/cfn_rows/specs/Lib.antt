pub mod Jagged
pub mod Lends
pub mod Order
pub mod Past
pub mod Sets
pub mod Tables
