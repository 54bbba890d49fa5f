pub mod Padding
pub mod Packing
pub mod Signs
