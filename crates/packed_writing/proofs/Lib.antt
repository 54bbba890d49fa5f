pub mod Stores
pub mod Writing
pub mod Written
pub mod Examples
pub mod FieldsBack
pub mod PartsBack
