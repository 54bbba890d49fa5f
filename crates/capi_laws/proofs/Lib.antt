pub mod Numbered
pub mod Apart
