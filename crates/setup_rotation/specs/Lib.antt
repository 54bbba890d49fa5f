pub mod Rotations
pub mod Inner
