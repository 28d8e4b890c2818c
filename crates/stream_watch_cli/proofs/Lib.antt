pub mod Parsed
pub mod Reached
pub mod Shown
