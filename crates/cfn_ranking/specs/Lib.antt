pub mod Ranked
pub mod Changes
pub mod Finished
pub mod Trees
pub mod Certificates
pub mod Laws
