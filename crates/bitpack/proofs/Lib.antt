pub mod Lengths
pub mod Padding
pub mod Merged
pub mod Answers
pub mod Bits
pub mod RoundTrip
pub mod Examples
