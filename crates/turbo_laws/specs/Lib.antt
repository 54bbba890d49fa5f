pub mod Amended
pub mod Withdrawn
pub mod WithoutNorm
pub mod OtherDimensions
