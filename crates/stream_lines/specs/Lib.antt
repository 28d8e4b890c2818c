pub mod Cut
pub mod Limits
pub mod Reading
