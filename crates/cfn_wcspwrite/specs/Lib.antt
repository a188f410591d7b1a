pub mod Canonical
pub mod Law
