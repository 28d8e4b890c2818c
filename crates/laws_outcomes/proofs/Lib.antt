pub mod Along
pub mod Endings
pub mod FactTimes
pub mod Last
pub mod Lists
pub mod Provisioners
pub mod Recorded
pub mod Runs
