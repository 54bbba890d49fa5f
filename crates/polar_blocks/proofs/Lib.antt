pub mod Indices
pub mod Radii
pub mod Blocks
pub mod Told
pub mod Spreading
