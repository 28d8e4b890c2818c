pub mod CommandLine
pub mod Due
pub mod Timestamp
pub mod Played
