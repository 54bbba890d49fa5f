pub mod Inner
pub mod Signed
pub mod Value
pub mod Sums
pub mod Rows
pub mod Butterfly
