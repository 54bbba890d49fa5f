pub mod Rows
pub mod FiniteSums
pub mod Answers
pub mod Examples
