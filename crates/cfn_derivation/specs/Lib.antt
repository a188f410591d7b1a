pub mod Derived
pub mod Working
pub mod Watched
pub mod Banned
