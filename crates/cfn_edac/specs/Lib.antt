pub mod Revising
pub mod Settling
pub mod Neighbours
pub mod Asking
pub mod Gathering
pub mod Owing
pub mod Resting
