pub mod Checks
pub mod Scan
pub mod Examples
pub mod Tests
