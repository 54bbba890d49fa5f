pub mod Query
pub mod Judging
pub mod Inner
