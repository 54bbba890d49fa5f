pub mod Scoring
pub mod Peeked
