pub mod ByName
pub mod Causes
pub mod Outputs
pub mod Recordings
pub mod Runs
pub mod Steps
