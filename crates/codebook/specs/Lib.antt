pub mod Codebook
pub mod Inner
