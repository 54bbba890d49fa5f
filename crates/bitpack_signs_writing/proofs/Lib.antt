pub mod SignPacking
pub mod SignAnswers
pub mod SignBlocks
