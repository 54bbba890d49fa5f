pub mod Inner
pub mod Transform
