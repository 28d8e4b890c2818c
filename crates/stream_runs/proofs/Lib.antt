pub mod Runs
pub mod Leading
