pub mod Giving
pub mod Fields
pub mod Scopes
pub mod Tables
