pub mod World
pub mod Actions
pub mod Laws
pub mod Examples
pub mod Machine
