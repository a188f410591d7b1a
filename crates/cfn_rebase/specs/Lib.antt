pub mod Balancing
pub mod Making
pub mod Fronts
pub mod Walking
pub mod Keeping
pub mod Resuming
