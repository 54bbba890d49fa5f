pub mod RoundTrips
pub mod Infinite
pub mod Moves
pub mod EmptyParts
pub mod Withdrawn
pub mod WithoutNorm
pub mod OtherDimensions
