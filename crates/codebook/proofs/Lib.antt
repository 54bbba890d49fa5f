pub mod Checks
pub mod Examples
