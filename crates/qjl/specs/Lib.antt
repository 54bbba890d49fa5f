pub mod Sketch
pub mod Score
