pub mod Scoring
pub mod Inner
