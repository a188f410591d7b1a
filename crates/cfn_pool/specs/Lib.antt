pub mod Recorded
pub mod Views
pub mod Answers
pub mod Telling
