mod FiniteTurn
pub mod Turned
