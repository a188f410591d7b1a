pub mod Lines
pub mod Places
pub mod Clauses
pub mod Partial
pub mod Reading
pub mod Laws
pub mod Gathering
pub mod Giving
