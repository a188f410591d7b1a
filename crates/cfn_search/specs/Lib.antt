pub mod Searching
pub mod Granting
pub mod Boards
pub mod Accounts
pub mod Stopping
pub mod Recording
pub mod Beginning
