pub mod Rows
pub mod Fours
