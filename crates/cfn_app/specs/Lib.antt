pub mod Endings
pub mod Headline
pub mod Loading
pub mod Merging
pub mod Runs
pub mod Saying
