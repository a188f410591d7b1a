pub mod Openness
pub mod Consistency
pub mod Groups
pub mod Agreement
pub mod Virtual
pub mod Laws
