pub mod Chunks
pub mod Parts
pub mod Stores
pub mod Loops
