pub mod Words
pub mod Stages
pub mod Telling
pub mod CallerLemmas
