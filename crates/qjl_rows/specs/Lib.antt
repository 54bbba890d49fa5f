pub mod Projection
pub mod Inner
