pub mod Arities
pub mod Counting
pub mod Amounts
pub mod Live
pub mod Shifted
pub mod Wiped
pub mod CallerLemmas
