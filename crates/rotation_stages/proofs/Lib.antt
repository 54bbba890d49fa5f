pub mod Fours
pub mod Passes
pub mod Stages
pub mod Ordered
pub mod Transformed
