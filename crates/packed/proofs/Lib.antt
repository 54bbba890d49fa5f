pub mod Radii
pub mod Headers
pub mod Parts
pub mod Payloads
pub mod Withdrawn
pub mod Accepted
pub mod Examples
pub mod Frame
