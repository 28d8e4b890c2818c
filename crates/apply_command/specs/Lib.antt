pub mod Head
pub mod Notes
pub mod Form
pub mod InTime
pub mod Lines
pub mod Prepared
pub mod Reading
