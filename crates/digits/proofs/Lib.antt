pub mod Laws
pub mod Words
pub mod Digits
pub mod Windows
pub mod Powers
pub mod Masks
