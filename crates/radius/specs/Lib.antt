pub mod Radii
pub mod Linear
pub mod Codec
pub mod Firsts
