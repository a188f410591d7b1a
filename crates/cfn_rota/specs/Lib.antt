pub mod Balances
pub mod Values
