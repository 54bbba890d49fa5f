pub mod Moves
pub mod Needed
