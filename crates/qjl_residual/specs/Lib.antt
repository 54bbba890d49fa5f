pub mod Residual
pub mod Exact
