pub mod Scans
pub mod Opening
pub mod Entering
pub mod Events
pub mod Shortening
pub mod History
pub mod AsOpened
pub mod Load
