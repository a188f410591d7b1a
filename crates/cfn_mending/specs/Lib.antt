pub mod Keeping
pub mod Joining
pub mod Merging
pub mod Laws
pub mod Making
pub mod MakingLaws
