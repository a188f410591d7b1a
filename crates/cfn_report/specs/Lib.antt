pub mod Texts
pub mod Text
