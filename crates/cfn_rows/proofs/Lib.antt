mod Cutting
mod Writing
mod Filling
mod Examples
mod Tracing
mod Counting
mod Making
mod Remaining
mod LiveExamples
pub mod CallerLemmas
