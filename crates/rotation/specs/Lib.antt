pub mod Inner
pub mod Checks
pub mod Rotation
pub mod Exact
