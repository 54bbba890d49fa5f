pub mod Powers
pub mod Accepted
pub mod Applied
pub mod SignValues
pub mod ErrorBound
pub mod Examples
pub mod Roots
