pub mod Accepted
pub mod Columns
pub mod ErrorBound
pub mod Examples
mod AtOnce
