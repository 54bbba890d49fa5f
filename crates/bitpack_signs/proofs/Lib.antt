pub mod Signs
pub mod SignUnpacking
