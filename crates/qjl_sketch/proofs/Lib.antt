pub mod AtOnce
pub mod Answers
