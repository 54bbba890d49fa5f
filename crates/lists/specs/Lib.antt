pub mod Chunks
pub mod Inner
