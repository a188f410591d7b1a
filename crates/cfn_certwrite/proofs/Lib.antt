mod Lines
mod Order
mod Upgrading
mod Gathering
mod RecordLines
mod Spellings
mod Trees
mod ListLines
pub mod CallerLemmas
