pub mod Payload
pub mod Inner
