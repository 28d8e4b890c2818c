pub mod JsonMembers
pub mod Lines
pub mod Messages
pub mod OutputSlots
pub mod Outputs
pub mod Seconds
pub mod Shape
