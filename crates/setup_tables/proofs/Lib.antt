mod Directions
mod Rows
mod Lengths
mod Rotations
pub mod Accepted
