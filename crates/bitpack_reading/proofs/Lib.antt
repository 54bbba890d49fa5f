pub mod Answers
pub mod Unpacking
pub mod Eights
