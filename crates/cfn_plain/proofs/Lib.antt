pub mod Assignments
pub mod Places
pub mod TreeSteps
