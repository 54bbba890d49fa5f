mod Steps
pub mod Usable
pub mod Scalars
