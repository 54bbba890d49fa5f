pub mod Taking
pub mod Ranks
