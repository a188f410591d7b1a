pub mod Running
pub mod Tables
pub mod Plans
pub mod Lifts
pub mod Roots
