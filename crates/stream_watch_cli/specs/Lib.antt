pub mod CommandLine
pub mod Watched
