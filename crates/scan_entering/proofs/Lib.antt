pub mod Putting
pub mod Entered
