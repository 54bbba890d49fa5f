pub mod Checks
pub mod ReadBack
pub mod Parts
pub mod Examples
