pub mod CommandLine
pub mod LineCounts
pub mod Outcomes
