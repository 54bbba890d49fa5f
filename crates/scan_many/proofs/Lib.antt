pub mod Many
pub mod Answers
pub mod Led
