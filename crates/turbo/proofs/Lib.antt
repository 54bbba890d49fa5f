pub mod Demand
pub mod Answers
pub mod Phased
pub mod Since
pub mod NothingHidden
pub mod Prepared
