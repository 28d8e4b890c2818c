pub mod Marks
pub mod ReadValues
pub mod Slots
pub mod TreeMembers
