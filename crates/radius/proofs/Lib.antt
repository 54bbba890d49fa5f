pub mod Radii
pub mod Ranges
pub mod Widths
pub mod Linear
pub mod Accepted
pub mod RoundTrip
pub mod Examples
pub mod Passes
