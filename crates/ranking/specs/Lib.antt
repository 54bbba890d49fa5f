pub mod Ranked
pub mod Sorting
