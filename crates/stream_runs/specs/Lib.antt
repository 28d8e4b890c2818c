pub mod Arguments
pub mod Choices
pub mod Collected
pub mod Counted
pub mod Selected
