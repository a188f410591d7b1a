pub mod Judging
pub mod Same
pub mod Ranking
pub mod Sources
pub mod Finding
