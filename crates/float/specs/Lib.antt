pub mod Inner
pub mod Bytes
pub mod Constants
pub mod Rounding
pub mod SquareRoot
pub mod Units
pub mod Copying
