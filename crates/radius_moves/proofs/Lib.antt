pub mod Numbers
pub mod Radius
pub mod Moves
pub mod Needed
