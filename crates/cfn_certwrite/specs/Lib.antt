pub mod Upgrading
pub mod Walk
pub mod Batches
pub mod Records
pub mod RecordTexts
pub mod ListLines
pub mod ListTexts
