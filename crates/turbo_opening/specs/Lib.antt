pub mod Opening
pub mod Inner
