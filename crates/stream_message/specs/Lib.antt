pub mod Kinds
pub mod Located
pub mod Members
pub mod Runs
pub mod Selected
pub mod SlotValues
pub mod Slots
pub mod Timestamp
