pub mod Setups
pub mod Lent
pub mod Checks
pub mod Seeds
