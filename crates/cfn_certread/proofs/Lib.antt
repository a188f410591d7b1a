pub mod Narrowed
pub mod Growing
pub mod Telling
pub mod NodeLines
pub mod Places
pub mod Whole
pub mod CallerLemmas
