pub mod Scalars
pub mod Maps
pub mod Examples
