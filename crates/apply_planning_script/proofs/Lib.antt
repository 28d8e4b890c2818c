pub mod AllTold
pub mod Checks
pub mod Clashes
pub mod Decided
pub mod Index
pub mod Items
pub mod ReadItems
pub mod Zipped
