mod Adding
mod Numerals
mod Sending
pub mod CallerLemmas
