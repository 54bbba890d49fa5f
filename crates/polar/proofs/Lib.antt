pub mod Answers
pub mod Entries
pub mod Loops
pub mod Tables
pub mod Errors
pub mod Counts
pub mod Directions
pub mod Examples
