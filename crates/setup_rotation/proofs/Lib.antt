pub mod Rotations
pub mod Turnable
pub mod Within
