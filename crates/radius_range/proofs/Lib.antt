pub mod Sizes
pub mod Best
pub mod Blocks
