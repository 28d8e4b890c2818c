pub mod Telling
pub mod Followed
pub mod Runs
pub mod Went
