pub mod Norms
pub mod Answers
