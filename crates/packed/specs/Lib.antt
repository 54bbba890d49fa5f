pub mod Fields
pub mod Layout
pub mod Radii
pub mod Reading
pub mod Accepted
pub mod Peeking
pub mod Inner
