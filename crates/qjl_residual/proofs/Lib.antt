pub mod SignSums
pub mod SignValues
pub mod ErrorBound
pub mod ScaleBound
pub mod Examples
