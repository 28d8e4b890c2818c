pub mod Extras
pub mod Schedules
pub mod Writable
