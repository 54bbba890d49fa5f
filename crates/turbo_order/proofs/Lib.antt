pub mod Sound
pub mod Scales
pub mod Within
pub mod Hadamard
pub mod Stored
pub mod Rotations
pub mod Examples
