pub mod Filling
pub mod Closing
pub mod Facts
