pub mod Computed
pub mod FloatOrder
pub mod Orders
pub mod Ranking
pub mod Sorting
