pub mod Angle
pub mod Polar
pub mod Exact
