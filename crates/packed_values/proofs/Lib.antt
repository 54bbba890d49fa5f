pub mod Values
pub mod Scratch
