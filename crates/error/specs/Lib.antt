pub mod Answer
pub mod Checks
pub mod Listed
pub mod Refusals
pub mod Outcomes
pub mod Inner
