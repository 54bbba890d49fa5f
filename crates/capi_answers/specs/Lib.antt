pub mod Told
pub mod Codes
