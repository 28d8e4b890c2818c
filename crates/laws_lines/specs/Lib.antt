pub mod Notes
pub mod Outputs
pub mod Reading
pub mod Stated
pub mod Streams
