pub mod Checks
pub mod Stored
pub mod Exact
pub mod Inner
